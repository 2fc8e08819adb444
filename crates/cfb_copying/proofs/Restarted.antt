-- Entries that begin elsewhere, in black, hold what they held.
use Rattle.std.proofs.Common.{◌≡◌, ℕ, ◌⊎◌, inl, inr, List, get_or, refl, ap, sym, subst, ◌∙◌, arith, ⊎_elim}
use Rattle.std.specs.Prelude.{slice_get, IfSome, None, Option, Some}
use Rattle.std.specs.List.{AllByRecursion}
use Rattle.std.proofs.lemmas.Bool.Decides.{eqb_tells, leb_tells}
use Rattle.std.proofs.lemmas.Option.{slice_get_within, slice_get-get_or}
use Rattle.cfb_sectors.specs.Header.{mini_cutoff}
use Rattle.cfb_tree.specs.Tree.{nothing, storage, stream, Content}
use Rattle.cfb_tree.specs.Directory.{kind_stream, none, some, Entry, HasName, Siblings}
use Rattle.cfb_ownership.specs.Held.{HoldsAt}
use Rattle.cfb_copying.specs.Copied.{color_then, IsLongAmong, Repairs, Restarts}
use Rattle.cfb_copying.proofs.Tight.{one_is_not_none, one_or_none}
use Rattle.cfb_siblings.proofs.Lists.{all_parts}

-- an entry that is found has one value
found_one : (es : List Entry) (id : ℕ) (e f : Entry) → slice_get es id ≡ Some e → slice_get es id ≡ Some f → e ≡ f
found_one es id e f one other = let both : Some e ≡ Some f = sym one ∙ other in cc

pub same_name : (e : Entry) (start color size : ℕ) (name : List ℕ) → HasName e name → HasName (record e { start = start; color = color; size = size }) name
same_name e start color size name named = record { even = named.even; fits = named.fits; spelled = named.spelled }

module _ (es later : List Entry) (ids : List ℕ) (own : ℕ → List ℕ) (h : Restarts es ids own later) where
  -- an entry is found again, with another start or its own
  pub is_long : (id : ℕ) (e : Entry) → slice_get es id ≡ Some e → IsLongAmong es ids id ⊎ (IsLongAmong es ids id → ⊥)
  is_long id e found = ⊎_elim
      (λ kind. ⊎_elim
      (λ long. ⊎_elim
      (λ among. inl (record { entry = e; found = found; of_kind = kind.1; long = long.1; among = among }))
      (λ apart. inr (λ it. one_is_not_none ids id it.among apart))
      (one_or_none ids id))
      (λ short. inr (λ it. let same : it.entry.size ≡ e.size = ap (λ x. x.size) (found_one es id it.entry e it.found found) in let big = it.long in omega (arith, same, big, short.1)))
      (leb_tells mini_cutoff e.size))
      (λ other. inr (λ it. let same : it.entry.kind ≡ e.kind = ap (λ x. x.kind) (found_one es id it.entry e it.found found) in let kind = it.of_kind in omega (arith, same, kind, other.1)))
      (eqb_tells e.kind kind_stream)

  pub again : (id : ℕ) (e : Entry) → slice_get es id ≡ Some e → (start : ℕ) × (slice_get later id ≡ Some (record e { start = start }))
  again id e found = ⊎_elim
      (λ zero_is. (_, ap (slice_get later) zero_is.1 ∙ h.root e (ap (slice_get es) (sym zero_is.1) ∙ found)))
      (λ past. ⊎_elim
      (λ long. (_, h.long id e (λ same. omega (arith, past.1, same)) long found))
      (λ short. (e.start, h.other id (λ same. omega (arith, past.1, same)) short ∙ found))
      (is_long id e found))
      (eqb_tells id 0)

module _ (es between later : List Entry) (ids : List ℕ) (own : ℕ → List ℕ) (size : ℕ) (h : Restarts es ids own between) (r : Repairs size between later) where
  -- an entry is found again, in black, with another start or its own; but for the root's its size stays
  pub repaired : (id : ℕ) (e : Entry) → slice_get es id ≡ Some e
      → (start : ℕ) × (n : ℕ) × (slice_get later id ≡ Some (record e { start = start; color = color_then e; size = n })) × ((id ≡ 0 → ⊥) → n ≡ e.size)
  repaired id e found =
      let next = again es between ids own h id e found in
      let moved : Entry = record e { start = next.0 } in
      ⊎_elim
      (λ zero_is. (next.0, size, ap (slice_get later) zero_is.1 ∙ r.root moved (ap (slice_get between) (sym zero_is.1) ∙ next.1), λ past. absurd (past zero_is.1)))
      (λ past. (next.0, e.size, r.other id moved (λ same. omega (arith, past.1, same)) next.1, λ same. refl))
      (eqb_tells id 0)

  -- what holds of an entry, wherever it begins, holds of it again
  pub some_again : (P Q : Entry → Type 0) → ((e : Entry) (start n : ℕ) → P e → Q (record e { start = start; color = color_then e; size = n })) → (id : ℕ) → IfSome (slice_get es id) P → IfSome (slice_get later id) Q
  some_again P Q so id was = by_found (slice_get later id) refl
    where
      by_found : (o : Option Entry) → slice_get later id ≡ o → IfSome (slice_get later id) Q
      by_found None is = subst (λ o. IfSome o Q) (sym is) tt
      by_found (Some x) is =
          let there = slice_get_within later id x is in
          let first = h.size in
          let second = r.count in
          let e = get_or es id x in
          let found : slice_get es id ≡ Some e = slice_get-get_or es id x (omega (arith, there, first, second)) in
          let next = repaired id e found in
          subst (λ o. IfSome o Q) (sym next.2) (so e next.0 next.1 (subst (λ o. IfSome o P) found was))

  pub siblings_again : (id : ℕ) (list : List ℕ) → Siblings es id list → Siblings later id list
  siblings_again id list (none is empty) = none is empty
  siblings_again id list (some e before after small found left right is) =
      let next = repaired id e found in
      some (record e { start = next.0; color = color_then e; size = next.1 }) before after small next.2 (siblings_again e.left before left) (siblings_again e.right after right) is

module _ (es between later : List Entry) (ids : List ℕ) (own : ℕ → List ℕ) (size : ℕ) (h : Restarts es ids own between) (r : Repairs size between later) (Q : ℕ → Type 0) (Reads Reads' : ℕ → Entry → List ℕ → Type 0)
    (so : (id : ℕ) (e : Entry) (start n : ℕ) (bytes : List ℕ) → Q id → slice_get es id ≡ Some e → e.kind ≡ kind_stream → slice_get later id ≡ Some (record e { start = start; color = color_then e; size = n }) → ((id ≡ 0 → ⊥) → n ≡ e.size)
    → Reads id e bytes → Reads' id (record e { start = start; color = color_then e; size = n }) bytes) where
  pub holds_again : (content : Content) (list all : List ℕ) → AllByRecursion Q all → HoldsAt es Reads list content all → HoldsAt later Reads' list content all
  holds_again nothing list all facts held = held
  holds_again (stream name bits bytes more) list all facts (e, id, others, rest, is, whole, at, reads, then) =
      let here = subst (AllByRecursion Q) whole facts in
      let next = repaired es between later ids own size h r id e at.found in (
        record e { start = next.0; color = color_then e; size = next.1 },
        id,
        others,
        rest,
        is,
        whole,
        record { found = next.2; of_kind = at.of_kind; named = same_name e next.0 (color_then e) next.1 name at.named; bits = at.bits },
        so id e next.0 next.1 bytes here.0 at.found at.of_kind next.2 next.3 reads,
        holds_again more others rest here.1 then,
      )
  holds_again (storage name facts' inside more) list all facts (e, id, others, children, within, rest, is, whole, at, siblings, in_it, then) =
      let here = subst (AllByRecursion Q) whole facts in
      let both = all_parts Q within rest here.1 in
      let next = repaired es between later ids own size h r id e at.found in (
        record e { start = next.0; color = color_then e; size = next.1 },
        id,
        others,
        children,
        within,
        rest,
        is,
        whole,
        record { found = next.2; of_kind = at.of_kind; named = same_name e next.0 (color_then e) next.1 name at.named; has_facts = at.has_facts },
        siblings_again es between later ids own size h r e.child children siblings,
        holds_again inside children within both.0 in_it,
        holds_again more others rest both.1 then,
      )
