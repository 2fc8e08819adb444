use Rattle.std.proofs.Common.{◌≡◌, ◌+◌, ◌-◌, ◌≤◌, ℕ, drop, map, subst, sym, take, arith}
use Rattle.std.proofs.lemmas.List.{take-take}
use Rattle.command_file.specs.RequestsOf.{request_of}
use Rattle.installer_runs.proofs.Parting.{taken_few}
use Rattle.installer_runs.specs.Runs.{IsSlice}
use Rattle.installer_runs.proofs.slices.next_slice.Goals as goal

pub returns-clause-slice : goal.returns-clause-slice
returns-clause-slice c =
    let rest = drop c.args.from c.args.commands.now in
    let inside = c.part_of.ensures.inside in
    let count : c.args.from + c.part_of.result - c.args.from ≡ c.part_of.result = omega arith in
    let few : c.part_of.result ≤ c.end_of_slice-end.result - c.args.from = let fewer = taken_few (c.end_of_slice-end.result - c.args.from) rest in omega (arith, inside, fewer) in
    let same = take-take c.part_of.result (c.end_of_slice-end.result - c.args.from) rest few in
    subst (λ (n : ℕ). IsSlice (map request_of (take n rest))) (sym count) (subst (λ xs. IsSlice (map request_of xs)) same c.part_of.ensures.slice)
