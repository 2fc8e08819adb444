use Rattle.std.proofs.Common.{◌≡◌, [], inl, inr, refl, ap, sym, ◌∙◌, subst, rules}
use Rattle.std.specs.Prelude.{slice_get, Some}
use Rattle.cfb_fat.specs.Keeping.{fails_cause}
use Rattle.cfb_fat.specs.OnlyReads.{all_rest_refl}
use Rattle.cfb_chain_io.proofs.GoingOn.{fails_go_on, goes_cause, goes_then}
use Rattle.cfb_tree.specs.Directory.{kind_stream}
use Rattle.cfb_tree.specs.EntryViews.{entry_in}
use Rattle.cfb_directory.specs.Children.{HoldsChild}
use Rattle.cfb_directory.specs.Views.{entries_held}
use Rattle.cfb_mini.specs.Views.{allocator_of, directory_of}
use Rattle.cfb_tree_edits.specs.Live.{live_of}
use Rattle.cfb_tree_edits.proofs.EmptyStorages.{owns_nothing}
use Rattle.cfb_tree_edits.proofs.GivenUp.{given_up}
use Rattle.cfb_tree_edits.proofs.Removed.{root_there, stream_held}
use Rattle.cfb_tree_edits.proofs.Standing.{stands_of}
use Rattle.cfb_tree_edits.proofs.Streams.{reads}
use Rattle.cfb_tree_edits.proofs.Taken.{keeps_way, leaf_below, leaf_child, leaf_one, taken_means}
use Rattle.cfb_tree_edits.proofs.taking.take_out.Goals as goal

pub returns-in-Err-clause-refused_only_if : goal.returns-in-Err-clause-refused_only_if
returns-in-Err-clause-refused_only_if g c = λ wrong l tree path name m leaf.
    let it = c.args.mini.now in
    c.in-Err.ensures.refused_only_if wrong l (reads (live_of it) m.who) tree path leaf.parent name m.who.sectors (leaf_child l it tree m path name c.args.link c.args.id leaf) m.owners (record { orderly = m.orderly; sizes = m.sizes })

pub returns-then-not-is_stream-clause-taken : goal.returns-then-not-is_stream-clause-taken
returns-then-not-is_stream-clause-taken g c = λ l tree path name m leaf.
    let it = c.args.mini.now in
    let new = c.unlink_dir_entry.new.self in
    let id = c.args.id in
    let did = c.in_default.ensures in
    let e = entry_in c.dir_entry.result.now in
    let found : slice_get (entries_held (directory_of it)) id ≡ Some e = ap (λ d. slice_get (entries_held d) id) (sym c.directory-2.ensures) ∙ c.dir_entry.ensures in
    let never : e.kind ≡ kind_stream → ⊥ = λ kind. let wrong = c.is_stream.ensures.1 kind in let not = c.if-not-is_stream.true in absurd (cc) in
    let frees = owns_nothing l it tree m id e found never in
    taken_means l it tree m path name c.args.link id leaf it new frees did.removed did.entry c.unlink_dir_entry.ensures.invariants did.error_contract.live.1
    (did.changes frees.now.sectors frees.stands.owners (root_there it frees.now frees.stands) (leaf_below l it tree m path name c.args.link id leaf))

pub returns-in-Err-free_stream-clause-refused_only_if : goal.returns-in-Err-free_stream-clause-refused_only_if
returns-in-Err-free_stream-clause-refused_only_if g c = λ wrong l tree path name m leaf.
    let it = c.args.mini.now in
    let id = c.args.id in
    let e = entry_in c.dir_entry.result.now in
    let found : slice_get (entries_held (directory_of it)) id ≡ Some e = ap (λ d. slice_get (entries_held d) id) (sym c.directory-2.ensures) ∙ c.dir_entry.ensures in
    let kind : e.kind ≡ kind_stream = c.is_stream.ensures.0 c.if-not-is_stream.false in
    let has = stream_held l it tree m id e (leaf_one l it tree m path name c.args.link id leaf) found kind in
    c.in-Err-free_stream.ensures.refused_only_if wrong m.who e has.0 (stands_of l it tree m) found has.1

pub returns-in-Err-unlink_dir_entry-clause-refused_only_if : goal.returns-in-Err-unlink_dir_entry-clause-refused_only_if
returns-in-Err-unlink_dir_entry-clause-refused_only_if g c = λ wrong l tree path name m leaf.
    let it = c.args.mini.now in
    let id = c.args.id in
    let e = entry_in c.dir_entry.result.now in
    let found : slice_get (entries_held (directory_of it)) id ≡ Some e = ap (λ d. slice_get (entries_held d) id) (sym c.directory-2.ensures) ∙ c.dir_entry.ensures in
    let kind : e.kind ≡ kind_stream = c.is_stream.ensures.0 c.if-not-is_stream.false in
    let has = stream_held l it tree m id e (leaf_one l it tree m path name c.args.link id leaf) found kind in
    let frees = c.in_default-free_stream.ensures.freed m.who e has.0 (stands_of l it tree m) found has.1 in
    c.in-Err-unlink_dir_entry.ensures.refused_only_if wrong l (reads (live_of it) m.who) tree path leaf.parent name frees.now.sectors
    (subst (λ es. HoldsChild l (reads (live_of it) m.who) es tree path leaf.parent name c.args.link id) (sym frees.entries) (leaf_child l it tree m path name c.args.link id leaf)) frees.stands.owners
    (record { orderly = frees.stands.orderly; sizes = frees.stands.sizes })

pub returns-in-Err-unlink_dir_entry-clause-error_contract : goal.returns-in-Err-unlink_dir_entry-clause-error_contract
returns-in-Err-unlink_dir_entry-clause-error_contract g c =
    let a = allocator_of c.args.mini.now in
    let m = allocator_of c.free_stream.new.mini in
    let b = allocator_of c.unlink_dir_entry-2.new.self in
    let told = c.in-Err-unlink_dir_entry.ensures.error_contract in
    record {
      live = tt;
      failed = search rules;
      after = inl c.fail.ensures.sectors.failed;
      cause = fails_cause a b (allocator_of c.fail.new.self) c.in-Err-unlink_dir_entry.error (goes_cause a m b c.in-Err-unlink_dir_entry.error c.free_stream.ensures.invariants c.in_default-free_stream.ensures.error_contract.live.1 told.cause) c.fail.ensures;
      fault = told.fault;
    }

pub returns-in-Err-unlink_dir_entry-clause-invariants : goal.returns-in-Err-unlink_dir_entry-clause-invariants
returns-in-Err-unlink_dir_entry-clause-invariants g c =
    let b = allocator_of c.unlink_dir_entry-2.new.self in
    fails_go_on 0 [] (allocator_of c.args.mini.now) b b (allocator_of c.fail.new.self) (goes_then _ _ _ c.free_stream.ensures.invariants c.unlink_dir_entry-2.ensures.invariants) (inr (all_rest_refl b)) c.fail.ensures

pub returns-clause-taken : goal.returns-clause-taken
returns-clause-taken g c = λ l tree path name m leaf.
    let it = c.args.mini.now in
    let mid = c.free_stream.new.mini in
    let new = c.unlink_dir_entry-2.new.self in
    let id = c.args.id in
    let did = c.in_default-unlink_dir_entry.ensures in
    let e = entry_in c.dir_entry.result.now in
    let found : slice_get (entries_held (directory_of it)) id ≡ Some e = ap (λ d. slice_get (entries_held d) id) (sym c.directory-2.ensures) ∙ c.dir_entry.ensures in
    let kind : e.kind ≡ kind_stream = c.is_stream.ensures.0 c.if-not-is_stream.false in
    let has = stream_held l it tree m id e (leaf_one l it tree m path name c.args.link id leaf) found kind in
    let frees = c.in_default-free_stream.ensures.freed m.who e has.0 (stands_of l it tree m) found has.1 in
    taken_means l it tree m path name c.args.link id leaf mid new frees did.removed did.entry c.unlink_dir_entry-2.ensures.invariants did.error_contract.live.1
    (did.changes frees.now.sectors frees.stands.owners (root_there mid frees.now frees.stands) (leaf_below l it tree m path name c.args.link id leaf))

pub returns-clause-invariants : goal.returns-clause-invariants
returns-clause-invariants g c = goes_then _ _ _ c.free_stream.ensures.invariants c.unlink_dir_entry-2.ensures.invariants

pub returns-then-not-is_stream-clause-ways : goal.returns-then-not-is_stream-clause-ways
returns-then-not-is_stream-clause-ways g c = λ l tree path name m leaf.
    let it = c.args.mini.now in
    let did = c.in_default.ensures in
    keeps_way l it tree m path name c.args.link c.args.id leaf (entries_held (directory_of it)) (entries_held (directory_of c.unlink_dir_entry.new.self)) refl did.removed did.entry

pub returns-clause-ways : goal.returns-clause-ways
returns-clause-ways g c = λ l tree path name m leaf.
    let it = c.args.mini.now in
    let mid = c.free_stream.new.mini in
    let id = c.args.id in
    let did = c.in_default-unlink_dir_entry.ensures in
    let e = entry_in c.dir_entry.result.now in
    let found : slice_get (entries_held (directory_of it)) id ≡ Some e = ap (λ d. slice_get (entries_held d) id) (sym c.directory-2.ensures) ∙ c.dir_entry.ensures in
    let kind : e.kind ≡ kind_stream = c.is_stream.ensures.0 c.if-not-is_stream.false in
    let has = stream_held l it tree m id e (leaf_one l it tree m path name c.args.link id leaf) found kind in
    let frees = c.in_default-free_stream.ensures.freed m.who e has.0 (stands_of l it tree m) found has.1 in
    keeps_way l it tree m path name c.args.link id leaf (entries_held (directory_of mid)) (entries_held (directory_of c.unlink_dir_entry-2.new.self)) frees.entries did.removed did.entry

pub returns-then-not-is_stream-clause-freed : goal.returns-then-not-is_stream-clause-freed
returns-then-not-is_stream-clause-freed g c = λ l tree path name m leaf.
    let it = c.args.mini.now in
    let id = c.args.id in
    let e = entry_in c.dir_entry.result.now in
    let found : slice_get (entries_held (directory_of it)) id ≡ Some e = ap (λ d. slice_get (entries_held d) id) (sym c.directory-2.ensures) ∙ c.dir_entry.ensures in
    let never : e.kind ≡ kind_stream → ⊥ = λ kind. let wrong = c.is_stream.ensures.1 kind in let not = c.if-not-is_stream.true in absurd (cc) in
    let frees = owns_nothing l it tree m id e found never in
    given_up it c.unlink_dir_entry.new.self _ _ _ frees.now.sectors frees.freed frees.stands.owners
    (c.in_default.ensures.changes frees.now.sectors frees.stands.owners (root_there it frees.now frees.stands) (leaf_below l it tree m path name c.args.link id leaf))

pub returns-clause-freed : goal.returns-clause-freed
returns-clause-freed g c = λ l tree path name m leaf.
    let it = c.args.mini.now in
    let mid = c.free_stream.new.mini in
    let id = c.args.id in
    let e = entry_in c.dir_entry.result.now in
    let found : slice_get (entries_held (directory_of it)) id ≡ Some e = ap (λ d. slice_get (entries_held d) id) (sym c.directory-2.ensures) ∙ c.dir_entry.ensures in
    let kind : e.kind ≡ kind_stream = c.is_stream.ensures.0 c.if-not-is_stream.false in
    let has = stream_held l it tree m id e (leaf_one l it tree m path name c.args.link id leaf) found kind in
    let frees = c.in_default-free_stream.ensures.freed m.who e has.0 (stands_of l it tree m) found has.1 in
    given_up mid c.unlink_dir_entry-2.new.self _ _ _ frees.now.sectors frees.freed frees.stands.owners
    (c.in_default-unlink_dir_entry.ensures.changes frees.now.sectors frees.stands.owners (root_there mid frees.now frees.stands) (leaf_below l it tree m path name c.args.link id leaf))
