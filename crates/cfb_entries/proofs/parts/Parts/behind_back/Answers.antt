use Rattle.std.proofs.Common.{sym, ◌∙◌}
use Rattle.cfb_entries.specs.Parts.{parts_left}
use Rattle.cfb_entries.proofs.Turning.{no_turn}
use Rattle.cfb_entries.proofs.parts.Parts.behind_back.Goals as goal

pub returns-then-not-turns-clause-behind : goal.returns-then-not-turns-clause-behind
returns-then-not-turns-clause-behind c = sym (no_turn (parts_left c.args.self.now) 0 (c.requires c.if-not-turns.true))

pub returns-then-not-has_back-clause-behind : goal.returns-then-not-has_back-clause-behind
returns-then-not-has_back-clause-behind c = sym (no_turn (parts_left c.args.self.now) 0 (sym c.has_back.ensures ∙ c.if-not-has_back.true))
