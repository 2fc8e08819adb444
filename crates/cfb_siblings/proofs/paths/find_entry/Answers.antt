use Rattle.std.specs.Prelude.{map, drop, ℕ, List, [], ◌+◌, ◌≡◌}
use Rattle.std.specs.Borrow.{Bor}
use Rattle.std.proofs.Common.{subst, ap, true, false, arith}
use Rattle.std.proofs.lemmas.List.{drop_all}
use Rattle.cfb_tree.specs.EntryViews.{entry_in}
use Rattle.cfb_tree.specs.CaseTableViews.{case_table_of}
use Rattle.cfb_siblings.specs.Places.{path_of, IsPlace}
use Rattle.cfb_siblings.specs.Reading.{ReadBy}
use Rattle.cfb_siblings.proofs.Following.{Followed, followed_none, followed_all, followed_more, followed_nowhere, followed_stream, storage_there, next_name}
use Rattle.cfb_siblings.proofs.paths.find_entry.Goals as goal

abbrev no_name : Bor (List ℕ)
no_name = record { ref_ptr = (0, 0); now = [] }

pub path-init : goal.path-init
path-init c = λ reads tree h. followed_none (case_table_of c.args.letters.now) (ReadBy reads) (map entry_in c.args.entries.now) tree h (path_of c.args.names.now)

pub returns-then-not-is_owner : goal.returns-then-not-is_owner
returns-then-not-is_owner c = λ reads tree h.
    let letters = case_table_of c.args.letters.now in
    let directory = map entry_in c.args.entries.now in
    let path = path_of c.args.names.now in
    let i = c.path.name-index in
    let here = next_name c.args.names.now i no_name c.path-test.true in
    let it = c.path.invariant reads tree h in
    followed_stream letters (ReadBy reads) directory tree h path (path_of (drop i c.args.names.now)) _ (path_of (drop (i + 1) c.args.names.now)) c.path.id here it
    (λ owner. let never : false ≡ true = c.if-not-is_owner.ensures.1 owner in absurd (cc))

pub returns-in-Some-Free : goal.returns-in-Some-Free
returns-in-Some-Free c = λ reads tree h.
    let letters = case_table_of c.args.letters.now in
    let directory = map entry_in c.args.entries.now in
    let path = path_of c.args.names.now in
    let i = c.path.name-index in
    let here = next_name c.args.names.now i no_name c.path-test.true in
    let it = c.path.invariant reads tree h in
    let s = storage_there letters (ReadBy reads) directory tree h path (path_of (drop i c.args.names.now)) _ (path_of (drop (i + 1) c.args.names.now)) c.path.id here it
    (c.is_owner.ensures.0 c.if-not-is_owner.false) in
    followed_nowhere letters (ReadBy reads) directory tree h path (path_of (drop i c.args.names.now)) _ (path_of (drop (i + 1) c.args.names.now)) c.path.id here it c.in-Some-Free.field-0-0
    (subst (IsPlace (ReadBy reads) letters directory tree it.front c.path.id _) c.in-Some-Free.field-0-is (c.in-Some-Free.ensures reads tree it.front h s))

pub returns-in-None : goal.returns-in-None
returns-in-None c = λ reads tree h.
    let letters = case_table_of c.args.letters.now in
    let directory = map entry_in c.args.entries.now in
    let path = path_of c.args.names.now in
    let i = c.path.name-index in
    let here = next_name c.args.names.now i no_name c.path-test.true in
    let it = c.path.invariant reads tree h in
    let s = storage_there letters (ReadBy reads) directory tree h path (path_of (drop i c.args.names.now)) _ (path_of (drop (i + 1) c.args.names.now)) c.path.id here it
    (c.is_owner.ensures.0 c.if-not-is_owner.false) in
    absurd (c.in-None.ensures reads tree it.front h s)

pub path-preserved : goal.path-preserved
path-preserved c = λ reads tree h.
    let letters = case_table_of c.args.letters.now in
    let directory = map entry_in c.args.entries.now in
    let path = path_of c.args.names.now in
    let i = c.path.name-index in
    let here = next_name c.args.names.now i no_name c.path-test.true in
    let it = c.path.invariant reads tree h in
    let s = storage_there letters (ReadBy reads) directory tree h path (path_of (drop i c.args.names.now)) _ (path_of (drop (i + 1) c.args.names.now)) c.path.id here it
    (c.is_owner.ensures.0 c.if-not-is_owner.false) in
    followed_more letters (ReadBy reads) directory tree h path (path_of (drop i c.args.names.now)) _ (path_of (drop (i + 1) c.args.names.now)) c.path.id here it _ c.in-Some-Taken.child
    (subst (IsPlace (ReadBy reads) letters directory tree it.front c.path.id _) c.in-Some-Taken.field-0-is (c.in-Some-Taken.ensures reads tree it.front h s))

pub returns : goal.returns
returns c = λ reads tree h.
    followed_all (case_table_of c.args.letters.now) (ReadBy reads) (map entry_in c.args.entries.now) tree h (path_of c.args.names.now) c.path.id
    (subst (λ rest. Followed (case_table_of c.args.letters.now) (ReadBy reads) (map entry_in c.args.entries.now) tree h (path_of c.args.names.now) rest c.path.id)
    (ap path_of (drop_all c.path.name-index c.args.names.now (omega (arith, c.path-test.false)))) (c.path.invariant reads tree h))
