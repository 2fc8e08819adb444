use Rattle.std.proofs.Common.{inl, ⊎_elim, inr}
use Rattle.cfb_sectors.specs.Held.{medium_of}
use Rattle.cfb_sectors.proofs.sectors.Sectors.commit.Goals as goal

pub returns-then-self-clause-crash : goal.returns-then-self-clause-crash
returns-then-self-clause-crash g c = λ honest.
    let m = medium_of c.args.self.now in
    let still = g.met.F.ReadMedium.continues_leaves m m (g.met.F.ReadMedium.continues_refl m) in
    record {
      later = still.later;
      each = λ x left. inl (still.each x left);
      before = λ t x from left. ⊎_elim inl (λ now. inr (inl now)) (still.before t x from left);
    }
