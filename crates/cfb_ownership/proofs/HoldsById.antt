-- What the entries hold, told by their numbers.
use Rattle.std.proofs.Common.{◌≡◌, ℕ, List, [], ◌∷◌, ◌++◌, subst, sym, ⊎_elim}
use Rattle.std.specs.Prelude.{slice_get, Some, ◌⊎◌}
use Rattle.std.specs.List.{AllByRecursion}
use mathlib.Core.Logic.{inl, inr}
use Rattle.cfb_tree.specs.Tree.{nothing, storage, stream, Content}
use Rattle.cfb_tree.specs.Directory.{kind_storage, kind_stream, Entry, Holds}
use Rattle.cfb_tree.proofs.NamesRead.{all_append}
use Rattle.cfb_ownership.specs.Held.{HoldsAt}
use Rattle.cfb_ownership.proofs.KeysOfParts.{IsOneOf}

-- entry `id` is a storage, or a stream with some bytes
abbrev pub IsPart : List Entry → (ℕ → Entry → List ℕ → Type 0) → ℕ → Type 0
IsPart directory Reads id = (e : Entry) × (slice_get directory id ≡ Some e) × ((e.kind ≡ kind_storage) ⊎ ((e.kind ≡ kind_stream) × (bytes : List ℕ) × Reads id e bytes))

module _ (directory : List Entry) (Reads : ℕ → Entry → List ℕ → Type 0) where
  pub holds_so : (Reads' : Entry → List ℕ → Type 0) → ((id : ℕ) (e : Entry) (bytes : List ℕ) → Reads id e bytes → Reads' e bytes)
      → (content : Content) (ids all : List ℕ) → HoldsAt directory Reads ids content all → Holds directory Reads' ids content all
  holds_so Reads' so nothing ids all h = h
  holds_so Reads' so (stream name bits bytes later) ids all (e, id, others, rest, is, whole, at, reads, then) =
      (e, id, others, rest, is, whole, at, so id e bytes reads, holds_so Reads' so later others rest then)
  holds_so Reads' so (storage name facts inside later) ids all (e, id, others, children, within, rest, is, whole, at, siblings, in_it, then) =
      (e, id, others, children, within, rest, is, whole, at, siblings, holds_so Reads' so inside children within in_it, holds_so Reads' so later others rest then)

  pub each_part : (content : Content) (ids all : List ℕ) → HoldsAt directory Reads ids content all → AllByRecursion (IsPart directory Reads) all
  each_part nothing ids all (none, is) = subst (AllByRecursion (IsPart directory Reads)) (sym is) tt
  each_part (stream name bits bytes later) ids all (e, id, others, rest, is, whole, at, reads, then) =
      subst (AllByRecursion (IsPart directory Reads)) (sym whole) ((e, at.found, inr (at.of_kind, bytes, reads)), each_part later others rest then)
  each_part (storage name facts inside later) ids all (e, id, others, children, within, rest, is, whole, at, siblings, in_it, then) =
      subst (AllByRecursion (IsPart directory Reads)) (sym whole)
      ((e, at.found, inl at.of_kind), all_append (IsPart directory Reads) within rest (each_part inside children within in_it) (each_part later others rest then))

-- what the entries hold, with a fact of each entry added
pub holds_with : (directory : List Entry) (Reads : Entry → List ℕ → Type 0) (Reads' : ℕ → Entry → List ℕ → Type 0) (Q : ℕ → Type 0)
    → ((id : ℕ) (e : Entry) (bytes : List ℕ) → slice_get directory id ≡ Some e → e.kind ≡ kind_stream → Q id → Reads e bytes → Reads' id e bytes)
    → (content : Content) (ids all : List ℕ) → AllByRecursion Q all → Holds directory Reads ids content all → HoldsAt directory Reads' ids content all
holds_with directory Reads Reads' Q so nothing ids all facts h = h
holds_with directory Reads Reads' Q so (stream name bits bytes later) ids all facts (e, id, others, rest, is, whole, at, reads, then) =
    let here = subst (AllByRecursion Q) whole facts in
    (e, id, others, rest, is, whole, at, so id e bytes at.found at.of_kind here.0 reads, holds_with directory Reads Reads' Q so later others rest here.1 then)
holds_with directory Reads Reads' Q so (storage name facts' inside later) ids all facts (e, id, others, children, within, rest, is, whole, at, siblings, in_it, then) =
    let here = subst (AllByRecursion Q) whole facts in
    let both = split_numbers within rest here.1 in (
      e,
      id,
      others,
      children,
      within,
      rest,
      is,
      whole,
      at,
      siblings,
      holds_with directory Reads Reads' Q so inside children within both.0 in_it,
      holds_with directory Reads Reads' Q so later others rest both.1 then,
    )
  where
    split_numbers : (xs ys : List ℕ) → AllByRecursion Q (xs ++ ys) → AllByRecursion Q xs × AllByRecursion Q ys
    split_numbers [] ys all = (tt, all)
    split_numbers (x ∷ xs) ys all = let rest = split_numbers xs ys all.1 in ((all.0, rest.0), rest.1)

-- each entry of the tree is a storage or a stream
abbrev pub HasKind : List Entry → ℕ → Type 0
HasKind directory id = (e : Entry) × (slice_get directory id ≡ Some e) × ((e.kind ≡ kind_storage) ⊎ (e.kind ≡ kind_stream))

pub kinds : (directory : List Entry) (Reads : Entry → List ℕ → Type 0) (content : Content) (ids all : List ℕ) → Holds directory Reads ids content all → (k : ℕ) → IsOneOf all k → HasKind directory k
kinds directory Reads nothing ids all (none, is) k one = absurd (subst (λ xs. IsOneOf xs k) is one)
kinds directory Reads (stream name bits bytes later) ids all (e, id, others, rest, is, whole, at, reads, then) k one =
    ⊎_elim (λ same. (e, subst (λ n. slice_get directory n ≡ Some e) same at.found, inr at.of_kind)) (λ behind. kinds directory Reads later others rest then k behind) (subst (λ xs. IsOneOf xs k) whole one)
kinds directory Reads (storage name facts inside later) ids all (e, id, others, children, within, rest, is, whole, at, siblings, in_it, then) k one =
    ⊎_elim
    (λ same. (e, subst (λ n. slice_get directory n ≡ Some e) same at.found, inl at.of_kind))
    (λ behind. ⊎_elim (λ first. kinds directory Reads inside children within in_it k first) (λ second. kinds directory Reads later others rest then k second) (in_either within rest behind))
    (subst (λ xs. IsOneOf xs k) whole one)
  where
    in_either : (xs ys : List ℕ) → IsOneOf (xs ++ ys) k → IsOneOf xs k ⊎ IsOneOf ys k
    in_either [] ys one = inr one
    in_either (x ∷ xs) ys (inl same) = inl (inl same)
    in_either (x ∷ xs) ys (inr later) = ⊎_elim (λ first. inl (inr first)) (λ second. inr second) (in_either xs ys later)
