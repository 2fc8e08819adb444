-- Entries that came behind others leave what stands in front of them.
use Rattle.std.proofs.Common.{◌≡◌, ℕ, List, [], ◌∷◌, ◌++◌}
use Rattle.std.specs.Prelude.{slice_get, Some}
use Rattle.std.specs.List.{AllByRecursion}
use Rattle.std.specs.declared.cmp.Ordering.{Ordering}
use Rattle.cfb_tree.specs.Directory.{Entry, Siblings, none, some}
use Rattle.cfb_tree.specs.Names.{CaseTable}
use Rattle.cfb_tree.specs.Paths.{Path}
use Rattle.cfb_siblings.specs.Places.{Hangs, IsChild, IsFree, IsEntryNamed, IsOwner, IsStorageAt, LeadsTo, first, to_left, to_right}
use Rattle.cfb_siblings.specs.declared.links.Link.{Link}

module _ (letters : CaseTable) (old new : List Entry) (keep : (id : ℕ) (e : Entry) → slice_get old id ≡ Some e → slice_get new id ≡ Some e) where
  pub siblings_more : (id : ℕ) (ids : List ℕ) → Siblings old id ids → Siblings new id ids
  siblings_more id ids (none at is) = none at is
  siblings_more id ids (some e before after fits found left right is) = some e before after fits (keep id e found) (siblings_more e.left before left) (siblings_more e.right after right) is

  named_more : (wanted : List ℕ) (order : Ordering) (id : ℕ) → IsEntryNamed letters old wanted order id → IsEntryNamed letters new wanted order id
  named_more wanted order id h = record { entry = h.entry; found = keep id h.entry h.found; name = h.name; named = h.named; compared = h.compared }

  all_named_more : (wanted : List ℕ) (order : Ordering) (ids : List ℕ) → AllByRecursion (IsEntryNamed letters old wanted order) ids → AllByRecursion (IsEntryNamed letters new wanted order) ids
  all_named_more wanted order [] all = tt
  all_named_more wanted order (id ∷ ids) all = (named_more wanted order id all.0, all_named_more wanted order ids all.1)

  owner_more : (id : ℕ) → IsOwner old id → IsOwner new id
  owner_more id h = record { entry = h.entry; found = keep id h.entry h.found; holds = h.holds }

  child_more : (parent : ℕ) (wanted : List ℕ) (id : ℕ) → IsChild letters old parent wanted id → IsChild letters new parent wanted id
  unfolding owner_more
  child_more parent wanted id h = record {
    owner = owner_more parent h.owner;
    front = h.front;
    back = h.back;
    siblings = siblings_more h.owner.entry.child (h.front ++ id ∷ h.back) h.siblings;
    named = named_more wanted _ id h.named;
  }

  leads_more : (path : Path) (start id : ℕ) → LeadsTo letters old start path id → LeadsTo letters new start path id
  leads_more [] start id is = is
  leads_more (name ∷ names) start id (next, child, rest) = (next, child_more start name next child, leads_more names next id rest)

  pub storage_more : (path : Path) (id : ℕ) → IsStorageAt letters old path id → IsStorageAt letters new path id
  storage_more path id h = record { leads = leads_more path 0 id h.leads; owner = owner_more id h.owner }

  hangs_more : (owner root : ℕ) (link : Link) (at : ℕ) (front back : List ℕ) → Hangs old owner root link at front back → Hangs new owner root link at front back
  hangs_more owner root link at front back (first is to none_before none_after) = first is to none_before none_after
  hangs_more owner root link at front back (to_left outer id e after rest inner fits found others is to all) =
      to_left outer id e after rest (hangs_more owner root outer id front rest inner) fits (keep id e found) (siblings_more e.right after others) is to all
  hangs_more owner root link at front back (to_right outer id e before rest inner fits found others is to all) =
      to_right outer id e before rest (hangs_more owner root outer id rest back inner) fits (keep id e found) (siblings_more e.left before others) is to all

  pub free_more : (parent : ℕ) (wanted : List ℕ) (link : Link) → IsFree letters old parent wanted link → IsFree letters new parent wanted link
  unfolding owner_more
  free_more parent wanted link h = record {
    owner = owner_more parent h.owner;
    front = h.front;
    back = h.back;
    hangs = hangs_more parent h.owner.entry.child link _ h.front h.back h.hangs;
    before = all_named_more wanted _ h.front h.before;
    after = all_named_more wanted _ h.back h.after;
  }
