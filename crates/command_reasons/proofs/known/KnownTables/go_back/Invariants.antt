use Rattle.command_reasons.proofs.known.KnownTables.go_back.Given as goal

abbrev pub decreases-loop-back : goal.decreases-loop-back
decreases-loop-back l = goal.left-loop-back l
