use Rattle.std.proofs.Common.{◌≡◌, map, take}
use Rattle.cfb_findings.specs.Links.{behind}
use Rattle.cfb_findings.proofs.links.double_links.Given as goal

abbrev pub invariant-loop-next : goal.invariant-loop-next
invariant-loop-next l = l.more.items ≡ map (behind l.links) (take l.next-index l.links)
