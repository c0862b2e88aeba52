-- Words of the private functions that read a text.
use Rattle.std.specs.Prelude.{◌≡◌, ◌≢◌, ℕ, ◌<◌, List, ◌++◌, length, slice_index, codes}
use Rattle.std.specs.Str.Parse.{IsNumeral, digits_value}

-- the byte does not stand in the text
pub record Lacks (byte : ℕ) (text : List ℕ) : Type 0 where
  pub at : (i : ℕ) → i < length text → slice_index text i ≢ byte

-- the text is 0x and hexadecimal digits of this number, with or without leading zeros
pub record TellsNumber (n : ℕ) (text : List ℕ) : Type 0 where
  pub digits : List ℕ
  pub is : text ≡ codes "0x" ++ digits
  pub numeral : IsNumeral 16 digits
  pub value : digits_value 16 digits ≡ n
