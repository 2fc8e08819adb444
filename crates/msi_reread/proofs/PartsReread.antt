-- What a page makes of streams that were read.
use Rattle.std.proofs.Common.{◌≡◌, ◌∙◌, ◌⊎◌, ℕ, List, Bool, true, false, ap, inl, inr, length, refl, subst, sym}
use Rattle.std.specs.Prelude.{Err, IfErr, MatchResult, None, Ok, Option, Result, Some, nat_le, nat_lt, option_map}
use Rattle.std.specs.List.{list_all}
use Rattle.cfb_fat.specs.Tables.{IsJustifiedBySectors}
use Rattle.cfb_fat.specs.Keeping.{own_cause}
use Rattle.cfb_fat.specs.declared.allocator.Allocator.{Allocator}
use Rattle.cfb_medium.specs.Calls.{IsFaultOrInvalidInputIf}
use Rattle.cfb_medium.specs.declared.error.Error.{Error}
use Rattle.cfb_medium.specs.declared.error.Error.TheVariants.{Device, Failed, InvalidData, InvalidInput, Memory, NotFound, UnexpectedEof}
use Rattle.cfb_medium.specs.declared.medium.ReadMedium.{Ghosts}
use Rattle.cfb_tree.specs.Names.{CaseTable}
use Rattle.cfb_tree.specs.Tree.{Tree}
use Rattle.msi_pool.specs.PoolReading.{heads_at, texts_at}
use Rattle.msi_spec.specs.Package.{data_name, objects, pool_name, stream_at, summary_name, table_stream}
use Rattle.msi_store.proofs.Refusals.{IsOfBytes, Refuses, heads_refuse, number_refuses, stored_refuses, texts_refuse, then_refuses, unless_refuses}
use Rattle.msi_texts.specs.Reading.{number_at}
use Rattle.msi_texts.specs.Results.{◌>>=◌, ReturnsOrOutOfMemory, or_refused, unless_not}
use Rattle.reread_texts.specs.Pools.{can_be_written, heads_stored, pool_reread, rewritten_by, written_by}
use Rattle.reread_texts.specs.Sets.{set_by, set_reread, set_written}
use Rattle.reread_texts.specs.Told.{told_in_utf8}
use Rattle.reread_texts.specs.declared.page.TextPage.{TextPage}
use Rattle.msi_props.specs.Props.{is_in_size, stored_props}
use Rattle.msi_reread.specs.Reread.{summary_by, texts_after, texts_by, IsReadAs}

-- a fault, or what the definition says
pub read_as : {X Y : Type 0} (see : X → Y) (r : Result X Error) (d : Result Y Error) → ReturnsOrOutOfMemory see r d → (e : Result Y Error) → e ≡ d → IsReadAs see r e
read_as see (Ok x) d told e same = same ∙ told
read_as see (Err x) d told e same = elim told [ inl memory ↦ inl (subst (IsFaultOrInvalidInputIf ⊥) (sym memory) tt) | inr is ↦ inr (same ∙ is) ]

pub read_as_same : {X Y : Type 0} (see : X → Y) (r : Result X Error) (d e : Result Y Error) → e ≡ d → IsReadAs see r d → IsReadAs see r e
read_as_same see r d e same told = subst (IsReadAs see r) (sym same) told

-- ---- what the tree has

module _ (letters : CaseTable) (p : TextPage) (tree : Tree) where
  pub texts_found : (pool : List ℕ) → table_stream letters (objects tree.content) pool_name ≡ Some pool → texts_by letters p tree ≡ texts_after letters p tree pool
  texts_found pool at = ap (λ o. or_refused o NotFound >>= texts_after letters p tree) at

  pub texts_missing : table_stream letters (objects tree.content) pool_name ≡ None → texts_by letters p tree ≡ Err NotFound
  texts_missing at = ap (λ o. or_refused o NotFound >>= texts_after letters p tree) at

  pub after_found : (pool texts : List ℕ) → table_stream letters (objects tree.content) data_name ≡ Some texts → texts_after letters p tree pool ≡ pool_reread p pool texts
  after_found pool texts at = ap (λ o. or_refused o NotFound >>= λ t. pool_reread p pool t) at

  pub after_missing : (pool : List ℕ) → table_stream letters (objects tree.content) data_name ≡ None → texts_after letters p tree pool ≡ Err NotFound
  after_missing pool at = ap (λ o. or_refused o NotFound >>= λ t. pool_reread p pool t) at

  pub summary_found : (bytes : List ℕ) → stream_at letters (objects tree.content) summary_name ≡ Some bytes → summary_by letters p tree ≡ set_reread p (told_in_utf8 bytes)
  summary_found bytes at = ap (λ o. or_refused o NotFound >>= λ b. set_reread p (told_in_utf8 b)) at

  pub summary_missing : stream_at letters (objects tree.content) summary_name ≡ None → summary_by letters p tree ≡ Err NotFound
  summary_missing at = ap (λ o. or_refused o NotFound >>= λ b. set_reread p (told_in_utf8 b)) at

-- ---- refusals that have no cause in the medium

record IsOwn (e : Error) : Type 0 where
  device : e ≡ Device → ⊥
  failed : e ≡ Failed → ⊥

own_bytes : (e : Error) → IsOfBytes e → IsOwn e
own_bytes e (inl is) = record { device = λ d. let no : Device ≡ InvalidData = sym d ∙ is in absurd (cc); failed = λ d. let no : Failed ≡ InvalidData = sym d ∙ is in absurd (cc) }
own_bytes e (inr is) = record { device = λ d. let no : Device ≡ UnexpectedEof = sym d ∙ is in absurd (cc); failed = λ d. let no : Failed ≡ UnexpectedEof = sym d ∙ is in absurd (cc) }

own_input : IsOwn InvalidInput
own_input = record { device = λ d. absurd (cc); failed = λ d. absurd (cc) }

own_unless : {A : Type 0} (b : Bool) (x : A) → IfErr (unless_not b InvalidInput >>= λ u. Ok x) IsOwn
own_unless true x = tt
own_unless false x = own_input

own_then : {A B : Type 0} (r : Result A Error) (f : A → Result B Error) → Refuses r → ((x : A) → IfErr (f x) IsOwn) → IfErr (r >>= f) IsOwn
own_then (Ok x) f h k = k x
own_then (Err e) f h k = own_bytes e h

heads_stored_refuse : (bytes : List ℕ) → Refuses (heads_stored bytes)
heads_stored_refuse bytes =
    then_refuses (number_at 4 bytes) _ (number_refuses 4 bytes) (λ id.
    then_refuses (heads_at (length id.1) id.1) _ (heads_refuse (length id.1) id.1) (λ heads.
    then_refuses (unless_not (nat_lt (length heads) 4294967296) InvalidData) _ (unless_refuses (nat_lt (length heads) 4294967296)) (λ u. tt)))

pool_own : (p : TextPage) (pool texts : List ℕ) → IfErr (pool_reread p pool texts) IsOwn
pool_own p pool texts =
    own_then (heads_stored pool) _ (heads_stored_refuse pool) (λ begun.
    own_then (texts_at begun.1 texts) _ (texts_refuse begun.1 texts) (λ stored. own_unless (list_all (can_be_written p) stored) (rewritten_by p begun.0 stored)))

set_own : (p : TextPage) (bytes : List ℕ) → IfErr (set_reread p bytes) IsOwn
set_own p bytes = own_then (stored_props bytes) (set_written p) (stored_refuses bytes) (λ s. own_unless (is_in_size (set_by p s)) _)

module _ {F : Type 0} {g : Ghosts F} (a b : Allocator F g) where
  own_has : {X Y : Type 0} (see : X → Y) (r : Result X Error) (d : Result Y Error) → IfErr d IsOwn → ReturnsOrOutOfMemory see r d → IfErr r (IsJustifiedBySectors a b)
  own_has see (Ok x) d own told = tt
  own_has see (Err e) d own told = elim told [
    | inl memory ↦ own_cause a b e (λ d. let no : Device ≡ Memory = sym d ∙ memory in absurd (cc)) (λ d. let no : Failed ≡ Memory = sym d ∙ memory in absurd (cc))
    | inr is ↦ let o : IsOwn e = subst (λ x. IfErr x IsOwn) is own in own_cause a b e (λ d. absurd (o.device d)) (λ d. absurd (o.failed d))
  ]

  pub pool_cause : {X : Type 0} (p : TextPage) (pool texts : List ℕ) (see : X → List ℕ × List ℕ × List ℕ) (r : Result X Error) → ReturnsOrOutOfMemory see r (pool_reread p pool texts) → IfErr r (IsJustifiedBySectors a b)
  pool_cause p pool texts see r told = own_has see r (pool_reread p pool texts) (pool_own p pool texts) told

  pub set_cause : {X : Type 0} (p : TextPage) (bytes : List ℕ) (see : X → List ℕ × List ℕ × ℕ) (r : Result X Error) → ReturnsOrOutOfMemory see r (set_reread p bytes) → IfErr r (IsJustifiedBySectors a b)
  set_cause p bytes see r told = own_has see r (set_reread p bytes) (set_own p bytes) told
