use Rattle.std.proofs.Common.{◌≡◌, Bool, true, false, List, [], ◌∷◌, ◌&&◌, ℕ, refl, chars}
use Rattle.std.specs.Char.{IsScalar}
use Rattle.std.specs.List.{AllByRecursion}
use Rattle.std.proofs.lemmas.Str.{scalars-chars}
use lib.Utf8.{scalars}
use Rattle.cfb_tree_edits.proofs.making.spells_scalars.Goals as goal

both : (a b : Bool) → a && b ≡ true → (a ≡ true) × (b ≡ true)
both true b is = (refl, is)
both false b is = absurd (cc)

each : (cs : List ℕ) → scalars cs ≡ true → AllByRecursion IsScalar cs
each [] is = tt
each (c ∷ cs) is = let parts = both _ _ is in (parts.0, each cs parts.1)

pub returns : goal.returns
returns c = each (chars c.args.text.now) (scalars-chars c.args.text.now c.utf8.text)
