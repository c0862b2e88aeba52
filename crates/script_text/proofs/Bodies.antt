-- What was put of a body: entries, tokens and media, one after another.
use Rattle.std.proofs.Common.{◌≡◌, ℕ, List, [], ◌++◌, reverse, Option, Result, append_assoc}
use Rattle.history.specs.declared.entry.Entry.{Entry}
use Rattle.image_store.specs.Edge.{AppendsUpTo, AppendsFront, PutsText}
use Rattle.script_text.specs.declared.report.parts.KeptMedium.{KeptMedium}
use Rattle.script_text.specs.declared.report.parts.TokenLine.{TokenLine}
use Rattle.script_text.specs.Entries.{entries_text}
use Rattle.script_text.specs.Report.{ended_text, tagged_reads, ends_text, media_text}
use Rattle.script_text.proofs.HeldText.{then_more, front_of_more, puts_held}

-- after the entries, from nothing held on
pub record Begun (w0 w1 : Option (List ℕ)) (held h1 : List ℕ) (per : ℕ) (H : List Entry) : Type 0 where
  pub none : held ≡ []
  pub entries : List Entry
  pub order : entries ≡ reverse H
  pub added : AppendsUpTo w0 w1 (held ++ entries_text per entries) h1

begun : (w0 w1 : Option (List ℕ)) (held h1 : List ℕ) (per : ℕ) (H : List Entry) → Begun w0 w1 held h1 per H → AppendsUpTo w0 w1 (entries_text per (reverse H)) h1
begun w0 w1 held h1 per H b = rw (b.none, b.order) at b.added

pub entries_front : (w0 w1 : Option (List ℕ)) (held rest : List ℕ) (per : ℕ) (H : List Entry) (ends : List TokenLine) (media : List KeptMedium) → Begun w0 w1 held rest per H → AppendsFront w0 w1 (ended_text per H ends media)
unfolding ended_text
entries_front w0 w1 held rest per H ends media b =
    front_of_more w0 w1 (entries_text per (reverse H)) (ends_text (tagged_reads (reverse H)) ends ++ media_text media) (rest, begun w0 w1 held rest per H b)

-- after the tokens
tokens_added : (w0 w1 w2 : Option (List ℕ)) (held h1 h2 : List ℕ) (per : ℕ) (H : List Entry) (ends : List TokenLine) → Begun w0 w1 held h1 per H → AppendsUpTo w1 w2 (h1 ++ ends_text (tagged_reads (reverse H)) ends) h2 → AppendsUpTo w0 w2 (entries_text per (reverse H) ++ ends_text (tagged_reads (reverse H)) ends) h2
tokens_added w0 w1 w2 held h1 h2 per H ends b two = then_more w0 w1 w2 (entries_text per (reverse H)) h1 (ends_text (tagged_reads (reverse H)) ends) h2 (begun w0 w1 held h1 per H b) two

pub tokens_front : (w0 w1 w2 : Option (List ℕ)) (held h1 : List ℕ) (per : ℕ) (H : List Entry) (ends : List TokenLine) (media : List KeptMedium) → Begun w0 w1 held h1 per H → AppendsFront w1 w2 (h1 ++ ends_text (tagged_reads (reverse H)) ends) → AppendsFront w0 w2 (ended_text per H ends media)
unfolding ended_text
tokens_front w0 w1 w2 held h1 per H ends media b (rest, two) =
    rw (← append_assoc (entries_text per (reverse H)) (ends_text (tagged_reads (reverse H)) ends) (media_text media))
    (front_of_more w0 w2 (entries_text per (reverse H) ++ ends_text (tagged_reads (reverse H)) ends) (media_text media) (rest, tokens_added w0 w1 w2 held h1 rest per H ends b two))

-- after the media
media_added : (w0 w1 w2 w3 : Option (List ℕ)) (held h1 h2 h3 : List ℕ) (per : ℕ) (H : List Entry) (ends : List TokenLine) (media : List KeptMedium) → Begun w0 w1 held h1 per H → AppendsUpTo w1 w2 (h1 ++ ends_text (tagged_reads (reverse H)) ends) h2 → AppendsUpTo w2 w3 (h2 ++ media_text media) h3 → AppendsUpTo w0 w3 (ended_text per H ends media) h3
unfolding ended_text
media_added w0 w1 w2 w3 held h1 h2 h3 per H ends media b two three =
    rw (← append_assoc (entries_text per (reverse H)) (ends_text (tagged_reads (reverse H)) ends) (media_text media))
    (then_more w0 w2 w3 (entries_text per (reverse H) ++ ends_text (tagged_reads (reverse H)) ends) h2 (media_text media) h3 (tokens_added w0 w1 w2 held h1 h2 per H ends b two) three)

pub media_front : (w0 w1 w2 w3 : Option (List ℕ)) (held h1 h2 : List ℕ) (per : ℕ) (H : List Entry) (ends : List TokenLine) (media : List KeptMedium) → Begun w0 w1 held h1 per H → AppendsUpTo w1 w2 (h1 ++ ends_text (tagged_reads (reverse H)) ends) h2 → AppendsFront w2 w3 (h2 ++ media_text media) → AppendsFront w0 w3 (ended_text per H ends media)
media_front w0 w1 w2 w3 held h1 h2 per H ends media b two (rest, three) = (rest, media_added w0 w1 w2 w3 held h1 h2 rest per H ends media b two three)

-- all, and what is held at the end
pub body_put : {E : Type 0} (w0 w1 w2 w3 w4 : Option (List ℕ)) (held h1 h2 h3 : List ℕ) (per : ℕ) (H : List Entry) (ends : List TokenLine) (media : List KeptMedium) (result : Result (Unit {0}) E) → Begun w0 w1 held h1 per H → AppendsUpTo w1 w2 (h1 ++ ends_text (tagged_reads (reverse H)) ends) h2 → AppendsUpTo w2 w3 (h2 ++ media_text media) h3 → PutsText w3 w4 result h3 → PutsText w0 w4 result (ended_text per H ends media)
body_put w0 w1 w2 w3 w4 held h1 h2 h3 per H ends media result b two three put =
    puts_held w0 w3 w4 (ended_text per H ends media) h3 result (media_added w0 w1 w2 w3 held h1 h2 h3 per H ends media b two three) put
