use Rattle.std.proofs.Common.{rules, ◌<◌, length, arith}
use Rattle.std.proofs.lemmas.Grind.{common_steps}
use Rattle.msi_columns.specs.Held.{columns_of, column_of}
use Rattle.msi_query.proofs.Parts.{parts_next_said, parts_skip}
use Rattle.std.proofs.lemmas.List.{map-append, length-map}
use Rattle.msi_query.proofs.cutting.columns_at.Goals as goal
use Rattle.msi_query.proofs.cutting.columns_at.Goals.{in-Some+in_ok-clone+in_ok-push, in_default}

pub loop-place-preserved : goal.loop-place-preserved
loop-place-preserved c =
    let before = c.loop-place.invariant in
    let below : c.loop-place.place-index < length c.args.places.now = c.loop-place-test.true in
    elim c.match-get.branch [
      | in-Some+in_ok-clone+in_ok-push w ↦
          let next = parts_next_said column_of c.args.places.now c.loop-place.place-index c.args.columns.now w.in-Some.column.now below (search (rules, w.in-Some.ensures.lookup)) (search (rules, w.in-Some.ensures.lookup)) in
          let same = w.cut-is in
          let items = w.in_ok-push.ensures.items in
          let said = w.in_ok-clone.ensures.ok in
          grind (arith, common_steps, map-append)
      | in_default w ↦
          let skip = parts_skip c.args.places.now c.loop-place.place-index (columns_of c.args.columns.now) below (search (rules, w.in_default.ensures.lookup, length-map)) in
          let same = w.cut-is in
          grind (arith, common_steps)
    ]
