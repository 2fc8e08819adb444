use Rattle.std.proofs.Common.{◌∙◌, ◌++◌, map, ap, sym, append_assoc, append-nil}
use Rattle.std.specs.List.{flat_map}
use Rattle.std.specs.Prelude.{string_bytes}
use Rattle.cfb_entries.specs.Listed.{listed_in}
use Rattle.cfb_entries.specs.Lists.{entries_left}
use Rattle.cfb_tree.specs.CaseTableViews.{case_table_of}
use Rattle.msi.specs.Lists.{name_listed}
use Rattle.msi.proofs.streams.names_of.Goals as goal

pub loop-entry-init : goal.loop-entry-init
loop-entry-init c =
    ap (λ ns. map string_bytes ns ++ flat_map (name_listed (case_table_of c.args.letters.now)) (map listed_in (entries_left c.into_iter-entry-iterator.result))) c.new-names.ensures.items
    ∙ ap (λ it. flat_map (name_listed (case_table_of c.args.letters.now)) (map listed_in (entries_left it))) c.into_iter-entry-iterator.ensures.into_iter_gives

pub loop-entry-preserved : goal.loop-entry-preserved
loop-entry-preserved c =
    let told = name_listed (case_table_of c.args.letters.now) in
    let left = flat_map told (map listed_in (entries_left c.next.new.self)) in
    ap (λ names. names ++ left) c.in_ok-push_name.ensures.ok
    ∙ append_assoc (map string_bytes c.loop-entry.names.items) (told (listed_in c.in-Some.entry)) left
    ∙ ap (λ es. map string_bytes c.loop-entry.names.items ++ flat_map told (map listed_in es)) (sym c.in-Some.ensures.steps)
    ∙ c.loop-entry.invariant

pub returns-clause-ok : goal.returns-clause-ok
returns-clause-ok c =
    let told = name_listed (case_table_of c.args.letters.now) in
    sym (append-nil (map string_bytes c.loop-entry.names.items))
    ∙ ap (λ es. map string_bytes c.loop-entry.names.items ++ flat_map told (map listed_in es)) (sym c.in-None.ensures.steps.0)
    ∙ c.loop-entry.invariant
