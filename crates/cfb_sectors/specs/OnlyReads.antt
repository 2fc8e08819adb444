-- Reads one after the other are reads.
use Rattle.std.specs.Prelude.{IsTrue}
use Rattle.std.proofs.Common.{sym, subst, ◌∙◌}
use Rattle.cfb_medium.specs.declared.medium.ReadMedium.{Ghosts}
use Rattle.cfb_sectors.specs.declared.sectors.Sectors.{Sectors}
use Rattle.cfb_sectors.specs.Held.{OnlyReadsSectors}

module _ {F : Type 0} {g : Ghosts F} where
  pub rests_refl : (a : Sectors F g) → OnlyReadsSectors a a
  rests_refl a = record { honest = λ i. g.honest a.inner; continues = λ start h. h; bytes = λ honest i. g.bytes a.inner; version = λ i. a.version; count = λ i. a.num_sectors; failed = λ i. a.failed }

  pub rests_then : (a b c : Sectors F g) → OnlyReadsSectors a b → OnlyReadsSectors b c → OnlyReadsSectors a c
  rests_then a b c h k = record {
    honest = k.honest ∙ h.honest;
    continues = λ start from. k.continues start (h.continues start from);
    bytes = λ honest. k.bytes (subst IsTrue (sym h.honest) honest) ∙ h.bytes honest;
    version = k.version ∙ h.version;
    count = k.count ∙ h.count;
    failed = k.failed ∙ h.failed;
  }
