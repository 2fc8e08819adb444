use Rattle.std.specs.Prelude.{map}
use Rattle.cfb_tree.specs.EntryViews.{entry_in}
use Rattle.cfb_siblings.specs.Reading.{ReadBy}
use Rattle.cfb_siblings.proofs.Entries.{found_in}
use Rattle.cfb_siblings.proofs.Taking.{found, lefts_hang, lefts_once, takes_left, takes_right, takes_both}
use Rattle.cfb_siblings.proofs.Unused.{read_by_place}
use Rattle.cfb_siblings.proofs.removal.plan_removal.Goals as goal

pub returns-then-entry : goal.returns-then-entry
returns-then-entry c = λ reads letters tree path parent name h s taken.
    let at = c.in-Some.ensures.lookup in
    takes_right letters (ReadBy reads) (read_by_place reads) (map entry_in c.args.entries.now) tree path parent c.args.link c.args.id name h s taken
    (entry_in c.in-Some.entry.now) (found_in c.args.entries.now c.args.id c.in-Some.entry.now at.3.0 at.1) c.if-entry.true

pub returns-then-entry-2 : goal.returns-then-entry-2
returns-then-entry-2 c = λ reads letters tree path parent name h s taken.
    let at = c.in-Some.ensures.lookup in
    takes_left letters (ReadBy reads) (read_by_place reads) (map entry_in c.args.entries.now) tree path parent c.args.link c.args.id name h s taken
    (entry_in c.in-Some.entry.now) (found_in c.args.entries.now c.args.id c.in-Some.entry.now at.3.0 at.1) c.if-entry-2.true

pub returns-in_default-last_sibling : goal.returns-in_default-last_sibling
returns-in_default-last_sibling c = λ reads letters tree path parent name h s taken.
    let at = c.in-Some.ensures.lookup in
    let D = map entry_in c.args.entries.now in
    c.in_default-last_sibling.ensures (found letters (ReadBy reads) (read_by_place reads) D tree path parent c.args.link c.args.id name h s taken).lefts
    (lefts_hang letters (ReadBy reads) (read_by_place reads) D tree path parent c.args.link c.args.id name h s taken
    (entry_in c.in-Some.entry.now) (found_in c.args.entries.now c.args.id c.in-Some.entry.now at.3.0 at.1))
    (lefts_once letters (ReadBy reads) (read_by_place reads) D tree path parent c.args.link c.args.id name h s taken) c.if-entry.false

pub returns : goal.returns
returns c = λ reads letters tree path parent name h s taken.
    let at = c.in-Some.ensures.lookup in
    let D = map entry_in c.args.entries.now in
    takes_both letters (ReadBy reads) (read_by_place reads) D tree path parent c.args.link c.args.id name h s taken
    (entry_in c.in-Some.entry.now) (found_in c.args.entries.now c.args.id c.in-Some.entry.now at.3.0 at.1) c.in-Some-last_sibling.last
    (c.in-Some-last_sibling.ensures (found letters (ReadBy reads) (read_by_place reads) D tree path parent c.args.link c.args.id name h s taken).lefts
    (lefts_hang letters (ReadBy reads) (read_by_place reads) D tree path parent c.args.link c.args.id name h s taken
    (entry_in c.in-Some.entry.now) (found_in c.args.entries.now c.args.id c.in-Some.entry.now at.3.0 at.1))
    (lefts_once letters (ReadBy reads) (read_by_place reads) D tree path parent c.args.link c.args.id name h s taken) c.if-entry.false)
