use Rattle.std.proofs.Common.{rules, arith, ◌≡◌, ◌++◌, ◌∷◌, []}
use Rattle.std.proofs.lemmas.List.{map-append}
use Rattle.std.proofs.lemmas.Grind.{common_steps}
use Rattle.msi_expr.proofs.Names.{list_any_map}
use Rattle.msi_expr.proofs.ast.note.Goals as goal

pub returns : goal.returns
returns c =
    let e : c.push.new.self.items ≡ c.args.names.now.items ++ c.args.name ∷ [] = search rules in
    rw e (grind (arith, common_steps, list_any_map, map-append))
