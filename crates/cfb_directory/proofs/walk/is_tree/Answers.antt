use Rattle.std.proofs.Common.{◌≡◌, ◌∙◌, ◌++◌, ◌∷◌, [], sym, ap, subst, arith, set, get_or, replicate, length, length-set, length-append, false, true, refl, None, List, ℕ, Bool, ◌<◌, ◌+◌, ◌*◌}
use Rattle.std.proofs.lemmas.List.{length-replicate, length-map, get_or_default, nil_from_length}
use Rattle.std.proofs.lemmas.Option.{slice_get_within}
use Rattle.cfb_tree.proofs.OneContent.{Some_same}
use Rattle.cfb_siblings.proofs.Entries.{found_in}
use Rattle.cfb_directory.specs.declared.walk.Link.{Link}
use Rattle.cfb_directory.specs.Walk.{links_at}
use Rattle.cfb_directory.proofs.Counting.{unset, unset_less}
use Rattle.cfb_tree.specs.EntryViews.{entry_in}
use Rattle.cfb_tree.specs.CaseTableViews.{case_table_of}
use Rattle.cfb_directory.specs.Entries.{entries_in}
use Rattle.cfb_directory.proofs.Walking.{Walked, begun, dropped, unfit, repeated, at_within, went, arrived, first_marked, kind_of_root}
use Rattle.cfb_directory.proofs.walk.is_tree.Goals as goal

pub walk-init : goal.walk-init
walk-init c =
    let entries = c.args.entries.now in
    let directory = entries_in entries in
    let at = c.in-Some.ensures.item in
    let root = entry_in c.in-Some.root.now in
    let taken = c.in_ok-is_root.ensures.taken.0 c.if-not-branch.false in
    let pending = c.in_ok-push.ensures.items ∙ ap (λ xs. xs ++ record { at = root.child; low = None; high = None } ∷ []) c.new-pending.ensures.items in
    let clear = c.in_ok-seen.ensures.items_if_clones_equal (λ y e. e) in
    let marks = ap (λ xs. set xs 0 true) clear in (
      root,
      found_in entries 0 c.in-Some.root.now at.3.0 at.1,
      taken,
      kind_of_root c.args.validation root taken,
      subst (λ links. Walked c.args.validation (case_table_of c.args.letters.now) directory root.child links (set c.in_ok-seen.seen.items 0 true)) (sym pending)
          (subst (λ ms. Walked c.args.validation (case_table_of c.args.letters.now) directory root.child (record { at = root.child; low = None; high = None } ∷ []) ms) (sym marks)
          (begun c.args.validation (case_table_of c.args.letters.now) directory root.child (set (replicate (length entries) false) 0 true) (simp (length-set, length-replicate, length-map) refl) (first_marked (length entries) at.3.0))),
    )

pub walk-preserved-then-link : goal.walk-preserved-then-link
walk-preserved-then-link c =
    let (root, found, taken, kind, walked) = c.walk.invariant in
    let links = c.pop.new.self.items in
    let link = c.in-Some-pop.link in (
      root,
      found,
      taken,
      kind,
      dropped c.args.validation (case_table_of c.args.letters.now) (entries_in c.args.entries.now) root.child links link c.walk.seen.items c.if-link.true
          (subst (λ xs. Walked c.args.validation (case_table_of c.args.letters.now) (entries_in c.args.entries.now) root.child xs c.walk.seen.items) c.in-Some-pop.ensures.items walked),
    )

pub returns-then-not-branch-2-clause-none : goal.returns-then-not-branch-2-clause-none
returns-then-not-branch-2-clause-none c = λ is tree it.
    let (root, found, taken, kind, walked) = c.walk.invariant in
    let wrong = c.in_ok-is_fit.ensures.fit.1 in
    let no = c.if-not-branch-2.true in
    unfit c.args.validation (case_table_of c.args.letters.now) (entries_in c.args.entries.now) root c.pop.new.self.items c.in-Some-pop.link c.walk.seen.items found
    (subst (λ xs. Walked c.args.validation (case_table_of c.args.letters.now) (entries_in c.args.entries.now) root.child xs c.walk.seen.items) c.in-Some-pop.ensures.items walked)
    c.if-link.false (λ fit. let never : true ≡ false = sym (wrong fit) ∙ no in absurd (cc)) tree it

fewer : (marks : List Bool) (id : ℕ) (links : List Link) (link : Link) (pending more later : List Link) → id < length marks → get_or marks id false ≡ false → pending ≡ links ++ link ∷ []
    → later ≡ links ++ more → length more ≡ 3 → 3 * unset (set marks id true) + length later < 3 * unset marks + length pending
fewer marks id links link pending more later within clear is is_later three =
    omega (arith, unset_less marks id false within clear, ap length is, ap length is_later, length-append links (link ∷ []), length-append links more, three)

marked_by : (marks : List Bool) (id : ℕ) (r b : Bool) → id < length marks → r ≡ get_or marks id r → r ≡ b → get_or marks id false ≡ b
marked_by marks id r b within e is = get_or_default marks id false r within ∙ sym e ∙ is

pub index-requires : goal.index-requires
index-requires c =
    let (root, found, taken, kind, walked) = c.walk.invariant in
    let fit = c.in_ok-is_fit.ensures.fit.0 c.if-not-branch-2.false in
    let within = at_within c.args.validation (case_table_of c.args.letters.now) (entries_in c.args.entries.now) root.child c.walk.pending.items c.walk.seen.items c.in-Some-pop.link.low c.in-Some-pop.link.high c.in-Some-pop.link.at walked fit in
    omega (arith, within, c.walk.seen.ok.0)

pub index_mut-requires-in-Some-pop : goal.index_mut-requires-in-Some-pop
index_mut-requires-in-Some-pop c =
    let (root, found, taken, kind, walked) = c.walk.invariant in
    let fit = c.in_ok-is_fit.ensures.fit.0 c.if-not-branch-2.false in
    let within = at_within c.args.validation (case_table_of c.args.letters.now) (entries_in c.args.entries.now) root.child c.walk.pending.items c.walk.seen.items c.in-Some-pop.link.low c.in-Some-pop.link.high c.in-Some-pop.link.at walked fit in
    omega (arith, within, c.walk.seen.ok.0)

pub bounds-entries-id : goal.bounds-entries-id
bounds-entries-id c =
    let fit = c.in_ok-is_fit.ensures.fit.0 c.if-not-branch-2.false in
    simp length-map at (slice_get_within (entries_in c.args.entries.now) c.in-Some-pop.link.at fit.entry fit.found)

pub returns-then-index-clause-none : goal.returns-then-index-clause-none
returns-then-index-clause-none c = λ is tree it.
    let (root, found, taken, kind, walked) = c.walk.invariant in
    let fit = c.in_ok-is_fit.ensures.fit.0 c.if-not-branch-2.false in
    let link = c.in-Some-pop.link in
    let marks = c.walk.seen.items in
    let within = at_within c.args.validation (case_table_of c.args.letters.now) (entries_in c.args.entries.now) root.child c.walk.pending.items marks link.low link.high link.at walked fit in
    repeated c.args.validation (case_table_of c.args.letters.now) (entries_in c.args.entries.now) root c.pop.new.self.items link marks found
    (subst (λ xs. Walked c.args.validation (case_table_of c.args.letters.now) (entries_in c.args.entries.now) root.child xs marks) c.in-Some-pop.ensures.items walked)
    c.if-link.false within (marked_by marks link.at c.index.result.now true within c.index.ensures c.if-index.true) tree it

pub walk-smaller : goal.walk-smaller
walk-smaller c =
    let (root, found, taken, kind, walked) = c.walk.invariant in
    let fit = c.in_ok-is_fit.ensures.fit.0 c.if-not-branch-2.false in
    let link = c.in-Some-pop.link in
    let marks = c.walk.seen.items in
    let within = at_within c.args.validation (case_table_of c.args.letters.now) (entries_in c.args.entries.now) root.child c.walk.pending.items marks link.low link.high link.at walked fit in
    let clear = marked_by marks link.at c.index.result.now false within c.index.ensures c.if-index.false in
    fewer marks link.at c.pop.new.self.items link c.walk.pending.items (links_at (entry_in c.index-entries-id.result) link) c.push_links.new.pending.items
    within clear c.in-Some-pop.ensures.items c.in_ok-push_links.ensures.added refl

pub walk-preserved : goal.walk-preserved
walk-preserved c =
    let (root, found, taken, kind, walked) = c.walk.invariant in
    let v = c.args.validation in
    let letters = case_table_of c.args.letters.now in
    let directory = entries_in c.args.entries.now in
    let fit = c.in_ok-is_fit.ensures.fit.0 c.if-not-branch-2.false in
    let link = c.in-Some-pop.link in
    let marks = c.walk.seen.items in
    let within = at_within v letters directory root.child c.walk.pending.items marks link.low link.high link.at walked fit in
    let clear = marked_by marks link.at c.index.result.now false within c.index.ensures c.if-index.false in
    let below : link.at < length c.args.entries.now = simp length-map at (slice_get_within directory link.at fit.entry fit.found) in
    let same : fit.entry ≡ entry_in c.index-entries-id.result = Some_same (sym fit.found ∙ found_in c.args.entries.now link.at c.index-entries-id.result below c.index-entries-id.is) in
    let on = went v letters directory root.child c.pop.new.self.items link marks (subst (λ xs. Walked v letters directory root.child xs marks) c.in-Some-pop.ensures.items walked) c.if-link.false fit clear in (
      root,
      found,
      taken,
      kind,
      subst (λ xs. Walked v letters directory root.child xs (set marks link.at true))
          (ap (λ e. c.pop.new.self.items ++ links_at e link) same ∙ sym c.in_ok-push_links.ensures.added) on,
    )

pub returns-clause-taken : goal.returns-clause-taken
returns-clause-taken c = λ is.
    let (root, found, taken, kind, walked) = c.walk.invariant in
    let v = c.args.validation in
    let letters = case_table_of c.args.letters.now in
    let directory = entries_in c.args.entries.now in
    let empty : c.walk.pending.items ≡ [] = nil_from_length c.walk.pending.items (omega (arith, c.walk.pending.ok.0, c.in_default-pop.ensures.cases.0)) in
    arrived v letters directory root c.walk.seen.items found taken kind (subst (λ xs. Walked v letters directory root.child xs c.walk.seen.items) empty walked)
