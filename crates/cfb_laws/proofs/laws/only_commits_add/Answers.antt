use Rattle.cfb_fat.specs.Tables.{medium_of}
use Rattle.cfb_mini.specs.Views.{allocator_of}
use Rattle.cfb.specs.Views.{mini_of}
use Rattle.cfb_laws.proofs.laws.only_commits_add.Goals as goal

pub returns-clause-changed : goal.returns-clause-changed
returns-clause-changed g c = λ old new goes.
    let G = g.met.F.ReadMedium in
    G.continues_leaves (medium_of old) (medium_of new) (goes.continues (medium_of old) (G.continues_refl (medium_of old)))

pub returns-clause-read : goal.returns-clause-read
returns-clause-read g c = λ old new rests.
    let G = g.met.F.ReadMedium in
    let was = medium_of (allocator_of (mini_of old)) in
    G.continues_leaves was (medium_of (allocator_of (mini_of new))) (rests.mini.directory.allocator.sectors.continues was (G.continues_refl was))

pub returns-clause-opened : goal.returns-clause-opened
returns-clause-opened g c = λ medium it opens.
    let G = g.met.F.ReadMedium in
    G.continues_leaves medium (medium_of (allocator_of it)) (opens.continues medium (G.continues_refl medium))

pub returns-clause-created : goal.returns-clause-created
returns-clause-created g c = λ version letters medium it created.
    let G = g.met.F.ReadMedium in
    G.continues_leaves medium (medium_of (allocator_of (mini_of it))) (created.continues medium (G.continues_refl medium))

pub returns-clause-continued : goal.returns-clause-continued
returns-clause-continued g c = λ old new extends.
    let G = g.met.F.ReadMedium in
    G.continues_leaves old new (extends old (G.continues_refl old))
