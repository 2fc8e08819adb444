use Rattle.std.proofs.Common.{◌+◌, ◌++◌, ◌∷◌, [], refl, subst, sym, take}
use Rattle.std.proofs.lemmas.List.{take_all, take_more}
use Rattle.cfb_directory.specs.Entries.{entries_in}
use Rattle.cfb_fat.specs.OnlyReads.{all_rest_refl, all_rest_then}
use Rattle.cfb_chain_io.proofs.GoingOn.{goes_then, rests_go_on}
use Rattle.cfb_copying.specs.Steps.{HasCopied}
use Rattle.cfb_copying.proofs.Originals.{once_of, original_rests}
use Rattle.cfb_copying.proofs.StepsThen.{steps_done, steps_fail}
use Rattle.cfb_copying.proofs.StreamSteps.{next_of}
use Rattle.cfb_copying.proofs.streams.copy_streams.Goals as goal

pub copy-init : goal.copy-init
copy-init g c = record { live = c.requires; rests = all_rest_refl c.args.source.now; goes = rests_go_on c.args.target.now c.args.target.now (all_rest_refl c.args.target.now); copied = λ s who minis original has. has }

pub copy-preserved : goal.copy-preserved
copy-preserved g c =
    let inv = c.copy.invariant in
    let i = c.copy.id-index in
    let ids = c.args.ids.now in
    let steps = c.in_default.ensures.steps in
    record {
      live = steps.live;
      rests = all_rest_then c.args.source.now c.copy.source c.copy_stream.new.source inv.rests steps.rests;
      goes = goes_then c.args.target.now c.copy.target c.copy_stream.new.target inv.goes steps.goes_on;
      copied = λ s who minis original has.
          subst (λ l. HasCopied s who l minis (entries_in c.copy_stream.new.entries) c.copy_stream.new.target) (sym (take_more ids i 0 c.copy-test.true))
          (c.in_default.ensures.copied s who ids (take i ids) minis (original_rests c.args.source.now c.copy.source s who ids inv.rests original)
          (next_of ids i (once_of c.args.source.now s who ids original) c.copy-test.true) (inv.copied s who minis original has));
    }

pub returns-in-Err-clause-refused_only_if : goal.returns-in-Err-clause-refused_only_if
returns-in-Err-clause-refused_only_if g c = λ s who minis original has.
    let inv = c.copy.invariant in
    let i = c.copy.id-index in
    let ids = c.args.ids.now in
    c.in-Err.ensures.refused_only_if s who ids (take i ids) minis (original_rests c.args.source.now c.copy.source s who ids inv.rests original)
    (next_of ids i (once_of c.args.source.now s who ids original) c.copy-test.true) (inv.copied s who minis original has)

pub returns-in-Err-clause-steps : goal.returns-in-Err-clause-steps
returns-in-Err-clause-steps g c =
    let inv = c.copy.invariant in
    steps_fail c.in-Err.error c.args.source.now c.copy.source c.copy_stream.new.source c.args.target.now c.copy.target c.copy_stream.new.target inv.rests inv.goes inv.live c.in-Err.ensures.steps

pub returns-clause-copied : goal.returns-clause-copied
returns-clause-copied g c = λ s who minis original has.
    subst (λ l. HasCopied s who l minis (entries_in c.copy.entries) c.copy.target) (take_all c.copy.id-index c.args.ids.now c.copy-test.false) (c.copy.invariant.copied s who minis original has)

pub returns-clause-steps : goal.returns-clause-steps
returns-clause-steps g c = let inv = c.copy.invariant in steps_done tt c.args.source.now c.copy.source c.args.target.now c.copy.target inv.rests inv.goes inv.live
