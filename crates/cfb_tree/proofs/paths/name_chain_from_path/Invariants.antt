use Rattle.std.proofs.Common.{◌≡◌, ◌==◌, [], map, length, drop, Some}
use Rattle.std.specs.List.{slice_split}
use Rattle.cfb_tree.specs.Paths.{led_from}
use Rattle.cfb_tree.proofs.paths.name_chain_from_path.Given as goal

-- the names so far, led on by the parts to come
abbrev pub invariant-loop-part : goal.invariant-loop-part
invariant-loop-part l =
    led_from (Some (map (λ name. name.now) l.names.items)) (drop (length l.yielded) (slice_split (λ b. b == 47) l.path)) ≡ led_from (Some []) (slice_split (λ b. b == 47) l.path)
