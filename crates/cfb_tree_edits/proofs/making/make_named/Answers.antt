use Rattle.std.specs.Borrow.{Bor}
use Rattle.std.proofs.Common.{ℕ, List, [], ◌≡◌, ◌<◌, ◌-◌, length, get_or, inl, inr, ap, sym, subst, ◌∙◌, chars}
use Rattle.cfb_tree.specs.Changes.{parent_of}
use Rattle.cfb_tree.specs.CaseTableViews.{case_table_of}
use Rattle.cfb_tree.specs.Objects.{EntriesHoldTree}
use Rattle.cfb_siblings.specs.Places.{path_of, path_to}
use Rattle.cfb_siblings.specs.Reading.{ReadBy}
use Rattle.cfb_directory.specs.Entries.{entries_in}
use Rattle.cfb_directory.specs.Views.{entries_held}
use Rattle.cfb_mini.specs.Views.{directory_of}
use Rattle.cfb_tree_edits.specs.Live.{live_of}
use Rattle.cfb_tree_edits.specs.Making.{IsFreePlace}
use Rattle.cfb_tree_edits.specs.Parents.{MakesAt}
use Rattle.cfb_tree_edits.proofs.NewPlaces.{last_is, length-path}
use Rattle.cfb_tree_edits.proofs.Resting.{keeps_refl}
use Rattle.cfb_tree_edits.proofs.SetFacts.{means_held}
use Rattle.cfb_tree_edits.proofs.Streams.{reads}
use Rattle.cfb_tree_edits.proofs.making.make_named.Goals as goal
use Rattle.cfb_entries.proofs.Others.{path_is}

abbrev no_name : Bor (List ℕ)
no_name = record { ref_ptr = (0, 0); now = [] }

-- the path of names, by its last name
path_by : (names : List (Bor (List ℕ))) → 0 < length names → path_to (parent_of (path_of names)) (chars (get_or names (length names - 1) no_name).now) ≡ path_of names
path_by names some = ap (path_to (parent_of (path_of names))) (sym (last_is names no_name some)) ∙ path_is (path_of names) (subst (λ n. 0 < n) (sym (length-path names)) some)

pub returns-in-Err-clause-refused_only_if : goal.returns-in-Err-clause-refused_only_if
returns-in-Err-clause-refused_only_if g c = λ tree m.
    let it = c.args.mini.now in
    let l = case_table_of c.args.letters.now in
    let Reads = reads (live_of it) m.who in
    let same : entries_in c.dir_entries.result.now ≡ entries_held (directory_of it) = c.dir_entries.ensures ∙ ap entries_held c.directory-2.ensures in
    inr (c.in-Err.ensures.refused_only_if Reads tree (subst (λ es. EntriesHoldTree l (ReadBy Reads) es tree) (sym same) (means_held l it tree m)) c.args.object, keeps_refl it)

pub returns-in-Err-make_child-clause-refused_only_if : goal.returns-in-Err-make_child-clause-refused_only_if
returns-in-Err-make_child-clause-refused_only_if g c = λ tree m.
    let it = c.args.mini.now in
    let l = case_table_of c.args.letters.now in
    let Reads = reads (live_of it) m.who in
    let names = c.args.names.now in
    let same : entries_in c.dir_entries.result.now ≡ entries_held (directory_of it) = c.dir_entries.ensures ∙ ap entries_held c.directory-2.ensures in
    let held = subst (λ es. EntriesHoldTree l (ReadBy Reads) es tree) (sym same) (means_held l it tree m) in
    let whole = path_by names c.in-Ok.ensures.some in
    let free = subst (λ es. IsFreePlace l es tree (path_of names) c.in-Ok.parent) same (c.in-Ok.ensures.free Reads tree held) in
    inl (c.in-Err-make_child.ensures.refused_only_if tree (parent_of (path_of names)) m (subst (λ p. IsFreePlace l (entries_held (directory_of it)) tree p c.in-Ok.parent) (sym whole) free))

pub returns-clause-made : goal.returns-clause-made
returns-clause-made g c = λ tree m.
    let it = c.args.mini.now in
    let l = case_table_of c.args.letters.now in
    let Reads = reads (live_of it) m.who in
    let names = c.args.names.now in
    let same : entries_in c.dir_entries.result.now ≡ entries_held (directory_of it) = c.dir_entries.ensures ∙ ap entries_held c.directory-2.ensures in
    let held = subst (λ es. EntriesHoldTree l (ReadBy Reads) es tree) (sym same) (means_held l it tree m) in
    let whole = path_by names c.in-Ok.ensures.some in
    let free = subst (λ es. IsFreePlace l es tree (path_of names) c.in-Ok.parent) same (c.in-Ok.ensures.free Reads tree held) in
    let made = c.in_default.ensures.made tree (parent_of (path_of names)) m (subst (λ p. IsFreePlace l (entries_held (directory_of it)) tree p c.in-Ok.parent) (sym whole) free) in
    subst (λ p. MakesAt l p c.args.object tree it c.make_child.new.mini m.who) whole made.makes
