-- Words with their parts.
use Rattle.std.proofs.Common.{◌≡◌, Bool, true, false, not, ◌&&◌, refl}
use Rattle.clap.specs.Words.{App, app_of, with_subcommand}
use Rattle.clap.specs.declared.Command.{Command}
use Rattle.clap.specs.declared.Command.TheViews.{out-Command as fields_of}

third : (a b c d : Bool) → (a && (b && (not c && d))) ≡ true → c ≡ false
third true true false d is = refl
third true true true d is = cc
third true false c d is = cc
third false b c d is = cc

-- a plain command has no argument that its parts have too
pub is_local : (part : Command) → (app_of part).top.is_plain ≡ true → (fields_of part).has_globals ≡ false
is_local part is = third _ _ _ _ is

abbrev pub is_plain : App → Bool
is_plain app = app.top.is_plain

abbrev pub joined : App → App → App
joined app part = with_subcommand app part.top
