-- Entries that are made black, and a root that gets a size.
use Rattle.std.proofs.Common.{◌≡◌, ℕ, ◌+◌, ◌<◌, ◌≤◌, List, length, refl, ap, sym, subst, ◌∙◌, arith, ⊎_elim}
use Rattle.std.specs.Prelude.{if◌then◌else◌, nat_eq, slice_get, slice_set, Some}
use Rattle.std.proofs.Math.ListN.{length-set}
use Rattle.std.proofs.lemmas.Bool.Decides.{eqb_tells}
use Rattle.std.proofs.lemmas.List.{map-set}
use Rattle.std.proofs.lemmas.Option.{slice_get_within}
use Rattle.cfb_directory.specs.Entries.{entries_in}
use Rattle.cfb_siblings.proofs.Colors.{set_other}
use Rattle.cfb_siblings.proofs.Frames.{set_found}
use Rattle.cfb_tree.specs.Directory.{black, kind_unallocated, Entry}
use Rattle.cfb_tree.specs.EntryViews.{entry_in}
use Rattle.cfb_tree.specs.declared.entry.DirEntry.{DirEntry}
use Rattle.cfb_copying.specs.Copied.{in_black, Paints, Repairs}
use Rattle.cfb_copying.proofs.Made.{other_test}

-- one that is not in use stays
pub black_unused : (e : Entry) → e.kind ≡ kind_unallocated → e ≡ in_black e
black_unused e none = ap (λ b. record e { color = if b then e.color else black }) (sym (ap (λ k. nat_eq k kind_unallocated) none))

-- any other is black
pub black_used : (e : Entry) → (e.kind ≡ kind_unallocated → ⊥) → record e { color = black } ≡ in_black e
black_used e used = ap (λ b. record e { color = if b then e.color else black }) (sym (other_test e.kind kind_unallocated used))

pub color_used : (e : Entry) → (e.kind ≡ kind_unallocated → ⊥) → (in_black e).color ≡ black
color_used e used = ap (λ b. if b then e.color else black) (other_test e.kind kind_unallocated used)

-- so many entries were made black: these are done, and those behind are as they were
pub record PaintsFirst (count : ℕ) (old new : List Entry) : Type 0 where
  pub many : length new ≡ length old
  pub done : (id : ℕ) (e : Entry) → id < count → slice_get old id ≡ Some e → slice_get new id ≡ Some (in_black e)
  pub yet : (id : ℕ) → count ≤ id → slice_get new id ≡ slice_get old id

pub none_painted : (es : List Entry) → PaintsFirst 0 es es
none_painted es = record { many = refl; done = λ id e below found. absurd (omega (arith, below)); yet = λ id past. refl }

pub one_painted : (count : ℕ) (old new : List Entry) (e : Entry) → slice_get new count ≡ Some e → PaintsFirst count old new → PaintsFirst (count + 1) old (slice_set new count (in_black e))
one_painted count old new e found h = record {
  many = length-set new count (in_black e) ∙ h.many;
  done = λ id x below at. ⊎_elim
      (λ same.
      let was : slice_get old count ≡ Some e = sym (h.yet count (omega arith)) ∙ found in
      let both : Some x ≡ Some e = sym at ∙ ap (slice_get old) same.1 ∙ was in
      let is : x ≡ e = cc in
      ap (slice_get (slice_set new count (in_black e))) same.1 ∙ set_found new count e (in_black e) found ∙ ap {A = Entry} (λ y. Some (in_black y)) (sym is))
      (λ other. set_other new count id (in_black e) (other_test count id (λ same. other.1 (sym same))) ∙ h.done id x (let differ = other.1 in omega (arith, below, differ)) at)
      (eqb_tells id count);
  yet = λ id past. set_other new count id (in_black e) (other_test count id (λ same. omega (arith, past, same))) ∙ h.yet id (omega (arith, past));
}

pub all_painted : (count : ℕ) (old new : List Entry) → length new ≤ count → PaintsFirst count old new → Paints old new
all_painted count old new all h = record {
  count = h.many;
  each = λ id e found. let there = slice_get_within old id e found in let many = h.many in h.done id e (omega (arith, there, many, all)) found;
}

-- an entry in memory was made black
pub entry_painted : (count : ℕ) (old : List Entry) (es : List DirEntry) (e p : DirEntry) → slice_get (entries_in es) count ≡ Some (entry_in e) → entry_in p ≡ in_black (entry_in e) → PaintsFirst count old (entries_in es)
    → PaintsFirst (count + 1) old (entries_in (slice_set es count p))
entry_painted count old es e p found is h =
    subst (PaintsFirst (count + 1) old) (ap {A = Entry} (λ x. slice_set (entries_in es) count x) (sym is) ∙ sym (map-set entry_in es count p)) (one_painted count old (entries_in es) (entry_in e) found h)

-- the root gets its size
pub root_sized : (size : ℕ) (old : List Entry) (es : List DirEntry) (e : DirEntry) → slice_get (entries_in es) 0 ≡ Some (entry_in e) → Paints old (entries_in es) → Repairs size old (entries_in (slice_set es 0 (record e { stream_len = size })))
root_sized size old es e found h =
    let new : Entry = record (entry_in e) { size = size } in
    let list : slice_set (entries_in es) 0 new ≡ entries_in (slice_set es 0 (record e { stream_len = size })) = sym (map-set entry_in es 0 (record e { stream_len = size })) in
    subst (Repairs size old) list (record {
      count = length-set (entries_in es) 0 new ∙ h.count;
      root = λ x at.
          let both : Some (entry_in e) ≡ Some (in_black x) = sym found ∙ h.each 0 x at in
          let same : entry_in e ≡ in_black x = cc in
          set_found (entries_in es) 0 (entry_in e) new found ∙ ap {A = Entry} (λ y. Some (record y { size = size })) same;
      other = λ id x past at. set_other (entries_in es) 0 id new (other_test 0 id (λ same. past (sym same))) ∙ h.each id x at;
    })
