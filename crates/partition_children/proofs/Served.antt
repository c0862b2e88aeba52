-- What a blocking read leaves, in plain words of lists.
use Rattle.std.proofs.Common.{◌≡◌, ◌≢◌, ◌⊎◌, inl, inr, ℕ, zero, suc, ◌+◌, ◌*◌, ◌<◌, ◌≤◌, Bool, true, false, List, [], ◌∷◌, ◌++◌, length, Option, None, Some, refl, sym, ◌∙◌, ap, subst, arith}
use Rattle.std.specs.Global.{Vec}
use Rattle.efi_status.specs.declared.Status.{Status}
use Rattle.history.specs.declared.entry.View.{View}
use Rattle.history.specs.declared.entry.Kind.TheVariants.{Read}
use Rattle.history.specs.declared.entry.Entry.{Entry}
use Rattle.history.specs.declared.entry.Entry.TheVariants.{Accept, Collect}
use Rattle.history.specs.Setup.{Setup, IsSetup}
use Rattle.history.specs.Tokens.{Request, token_count, request}
use Rattle.history.specs.Marks.{mark_of}
use Rattle.history.specs.Next.{first_open}
use Rattle.history.specs.Rules.{IsLegal}
use Rattle.history_laws.proofs.TokenLemmas.{request-accept}
use Rattle.disk_core.specs.declared.answers.Ask.{Ask}
use Rattle.disk_core.specs.declared.answers.Ask.TheVariants as ask
use Rattle.disk_core.specs.Facts.{HasBytesRead, buffer_length}
use Rattle.disk_core.specs.State.{State, Kept}
use Rattle.disk_core.specs.Calls.{Accepts, Collects}
use Rattle.history_laws.specs.Serving.{AreWhileOpen, AreOwnInOrder, ends_in_fault}
use Rattle.disk_io2.specs.Blocking.{CarriesOut, Finishes, IsServedAlone, Serves}
use Rattle.history_laws.proofs.ClosedLemmas.{legal-before, while-request}
use Rattle.partition_children.specs.Entries.{read_asked}

-- the entries of a read that was served until it ended, and was collected
pub record ServedRead (S : Setup) (E : List Entry) (view : View) (read : ℕ × ℕ) (status : Status) (failed : Bool) (bytes : List ℕ) (new : State) : Type 0 where
  pub cs : List Entry
  pub setup : new.setup ≡ S
  pub entries : new.entries ≡ Collect 0 (token_count E) ∷ (cs ++ Accept 0 view (read_asked read) [] ∷ E)
  pub legal : IsLegal S (cs ++ Accept 0 view (read_asked read) [] ∷ E)
  pub open_ : AreWhileOpen S (Accept 0 view (read_asked read) [] ∷ E) (token_count E) cs
  pub own : AreOwnInOrder S (token_count E) (record { tag = 0; view = view; asked = read_asked read; bytes = [] }) cs
  pub last : ends_in_fault cs ≡ failed
  pub drained : first_open new.setup new.entries ≡ None
  pub marked : mark_of S (cs ++ Accept 0 view (read_asked read) [] ∷ E) (token_count E) ≡ Some status
  pub got : HasBytesRead S (cs ++ Accept 0 view (read_asked read) [] ∷ E) (token_count E) (record { tag = 0; view = view; asked = read_asked read; bytes = [] }) bytes
  pub long : length bytes ≡ read.1

-- a fact of a history as that of an equal one
cast : (P : Setup → List Entry → ℕ → Type 0) (S S' : Setup) (H H' : List Entry) (t t' : ℕ) → S ≡ S' → H ≡ H' → t ≡ t' → P S H t → P S' H' t'
cast P S S' H H' t t' s h n p = subst (λ (x : Setup). P x H' t') s (subst (λ (x : List Entry). P S x t') h (subst (λ (x : ℕ). P S H x) n p))

some-request : (a b : Request) → Some a ≡ Some b → a ≡ b
some-request a b e = cc

module _ (old new : State) (view : View) (k at : ℕ) (buffer : Vec ℕ) (status : Status) (failed : Bool) (bytes : List ℕ) (drained : first_open old.setup old.entries ≡ None) (out : CarriesOut old 0 view k (ask.Read at buffer) status failed bytes new) where
  abbrev read : ℕ × ℕ
  read = (at, length buffer.items)

  abbrev H : List Entry
  H = Accept 0 view (read_asked read) [] ∷ old.entries

  abbrev r : Request
  r = record { tag = 0; view = view; asked = read_asked read; bytes = [] }

  abbrev cs : List Entry
  cs = out.finishes.serves.commands

  begun-setup : out.begun.setup ≡ old.setup
  begun-setup = ap (λ (s : State). s.setup) out.accepts.new_is

  begun-entries : out.begun.entries ≡ H
  begun-entries = ap (λ (s : State). s.entries) out.accepts.new_is

  served-setup : out.finishes.served.setup ≡ old.setup
  served-setup = out.finishes.serves.goes_on.setup ∙ begun-setup

  served-entries : out.finishes.served.entries ≡ cs ++ H
  served-entries = out.finishes.serves.entries ∙ ap (λ (E : List Entry). cs ++ E) begun-entries

  new-setup : new.setup ≡ old.setup
  new-setup = ap (λ (s : State). s.setup) out.finishes.collects.new_is ∙ served-setup

  new-entries : new.entries ≡ Collect 0 (token_count old.entries) ∷ (cs ++ H)
  new-entries =
      ap (λ (s : State). s.entries) out.finishes.collects.new_is
      ∙ (ap (λ (t : ℕ). Collect 0 t ∷ out.finishes.served.entries) out.accepts.numbered ∙ ap (λ (E : List Entry). Collect 0 (token_count old.entries) ∷ E) served-entries)

  open-now : AreWhileOpen old.setup H (token_count old.entries) cs
  open-now = cast (λ S E t. AreWhileOpen S E t cs) _ _ _ _ _ _ begun-setup begun-entries out.accepts.numbered out.finishes.serves.while_open

  asked-is : out.finishes.asked ≡ r
  asked-is = some-request out.finishes.asked r
      (sym (cast (λ S E t. request E t ≡ Some out.finishes.asked) old.setup old.setup _ _ _ _ refl served-entries out.accepts.numbered out.finishes.collects.named)
      ∙ (while-request old.setup (token_count old.entries) H cs (token_count old.entries) open-now ∙ request-accept old.entries 0 view (read_asked read) []))

  abbrev alone : IsServedAlone old.setup out.token.number out.finishes.asked cs new
  alone = out.alone drained

  reads-got : HasBytesRead old.setup (cs ++ H) (token_count old.entries) r bytes
  reads-got =
      let kind : out.finishes.asked.asked.kind ≡ Read = ap (λ (x : Request). x.asked.kind) asked-is in
      subst (λ (x : Request). HasBytesRead old.setup (cs ++ H) (token_count old.entries) x bytes) asked-is
      (cast (λ S E t. HasBytesRead S E t out.finishes.asked bytes) _ _ _ _ _ _ served-setup served-entries out.accepts.numbered (out.finishes.collects.read kind))

  pub served : ServedRead old.setup old.entries view read status failed bytes new
  served = record {
    cs = cs;
    setup = new-setup;
    entries = new-entries;
    legal = legal-before old.setup (cs ++ H) (Collect 0 (token_count old.entries)) (cast (λ S E t. IsLegal S E) _ _ _ _ 0 0 new-setup new-entries refl out.finishes.collects.legal);
    open_ = open-now;
    own = subst (λ (x : Request). AreOwnInOrder old.setup (token_count old.entries) x cs) asked-is (subst (λ (t : ℕ). AreOwnInOrder old.setup t out.finishes.asked cs) out.accepts.numbered alone.own);
    last = out.finishes.last;
    drained = alone.drained;
    marked = cast (λ S E t. mark_of S E t ≡ Some status) _ _ _ _ _ _ served-setup served-entries out.accepts.numbered out.finishes.collects.marked;
    got = reads-got;
    long = subst (λ (x : Request). length bytes ≡ buffer_length x.asked.kind x.asked.length) asked-is out.finishes.collects.long;
  }
