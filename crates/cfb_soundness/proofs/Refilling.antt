-- The same entries, with other bytes of their streams.
use Rattle.std.proofs.Common.{◌≡◌, ℕ, List, [], ◌∷◌, refl, ap, sym, subst, ◌∙◌}
use Rattle.std.specs.Prelude.{slice_get, Some}
use Rattle.std.specs.List.{AllByRecursion}
use Rattle.std.specs.List.Sorted.{IsStrictlySortedBy}
use Rattle.cfb_tree.specs.Names.{name_cmp, CaseTable}
use Rattle.cfb_tree.specs.Tree.{child_names, nothing, storage, stream, Content, IsOrderedInside}
use Rattle.cfb_tree.specs.Directory.{kind_stream, Entry, Holds}
use Rattle.cfb_tree.proofs.OneContent.{holds_unique}
use Rattle.cfb_soundness.proofs.Taking.{all_front}

pub all_always : {X : Type 0} (P : X → Type 0) → ((x : X) → P x) → (xs : List X) → AllByRecursion P xs
all_always P so [] = tt
all_always P so (x ∷ xs) = (so x, all_always P so xs)

module _ (letters : CaseTable) (directory : List Entry) (Reads Other : Entry → List ℕ → Type 0) where
  -- what the entries hold when each stream has other bytes
  pub record Refilled (content : Content) (ids all : List ℕ) : Type 0 where
    pub other : Content
    pub holds : Holds directory Other ids other all
    pub names : child_names other ≡ child_names content
    pub ordered : IsOrderedInside letters content → IsOrderedInside letters other

  -- each stream among these entries has such bytes
  abbrev pub HaveOther : List ℕ → Type 0
  HaveOther all = AllByRecursion (λ id. (e : Entry) → slice_get directory id ≡ Some e → e.kind ≡ kind_stream → (bytes : List ℕ) × Other e bytes) all

  pub refilled : (content : Content) (ids all : List ℕ) → Holds directory Reads ids content all → HaveOther all → Refilled content ids all
  refilled nothing ids all (none, is) have = record { other = nothing; holds = (none, is); names = refl; ordered = λ o. o }
  refilled (stream n b x later) ids all (e, id, others, rest, is, whole, at, reads, then) have =
      let has = subst HaveOther whole have in
      let mine = has.0 e at.found at.of_kind in
      let more = refilled later others rest then has.1 in
      record {
        other = stream n b mine.0 more.other;
        holds = (e, id, others, rest, is, whole, at, mine.1, more.holds);
        names = ap (λ ns. n ∷ ns) more.names;
        ordered = more.ordered;
      }
  refilled (storage n f inside later) ids all (e, id, others, children, within, rest, is, whole, at, siblings, in_it, then) have =
      let has = subst HaveOther whole have in
      let parts = all_front (λ id. (e : Entry) → slice_get directory id ≡ Some e → e.kind ≡ kind_stream → (bytes : List ℕ) × Other e bytes) within rest has.1 in
      let inner = refilled inside children within in_it parts.0 in
      let more = refilled later others rest then parts.1 in
      record {
        other = storage n f inner.other more.other;
        holds = (e, id, others, children, within, rest, is, whole, at, siblings, inner.holds, more.holds);
        names = ap (λ ns. n ∷ ns) more.names;
        ordered = λ o. (subst (IsStrictlySortedBy (name_cmp letters)) (sym inner.names) o.0, inner.ordered o.1, more.ordered o.2);
      }

-- which entries a list of siblings has at all depths doesn't depend on the bytes of streams
pub entries_same : (letters : CaseTable) (directory : List Entry) (Reads Other : Entry → List ℕ → Type 0) (t u : Content) (ids xs ys : List ℕ)
    → Holds directory Reads ids t xs → Holds directory Other ids u ys → xs ≡ ys
entries_same letters directory Reads Other t u ids xs ys h k =
    let Empty : Entry → List ℕ → Type 0 = λ e bytes. bytes ≡ [] in
    let empty : (id : ℕ) (e : Entry) → slice_get directory id ≡ Some e → e.kind ≡ kind_stream → (bytes : List ℕ) × (bytes ≡ []) = λ id e found is. ([], refl) in
    let first = refilled letters directory Reads Empty t ids xs h (all_always (λ id. (e : Entry) → slice_get directory id ≡ Some e → e.kind ≡ kind_stream → (bytes : List ℕ) × (bytes ≡ [])) empty xs) in
    let second = refilled letters directory Other Empty u ids ys k (all_always (λ id. (e : Entry) → slice_get directory id ≡ Some e → e.kind ≡ kind_stream → (bytes : List ℕ) × (bytes ≡ [])) empty ys) in
    (holds_unique directory Empty Empty (λ e a b one other. one ∙ sym other) first.other second.other ids xs ys first.holds second.holds).1
