use Rattle.std.proofs.Common.{◌≡◌, ◌∷◌, flat_map, map, take, string_bytes}
use Rattle.cfb_tree.proofs.paths.path_from_name_chain.Given as goal

-- the path of the names so far
abbrev pub invariant-loop-name : goal.invariant-loop-name
invariant-loop-name l = string_bytes l.path ≡ flat_map (λ name. 47 ∷ name) (map (λ name. name.now) (take l.name-index l.names))
