use Rattle.std.proofs.Common.{◌∙◌, subst, sym}
use Rattle.std.proofs.lemmas.Str.{is_utf8-from_IsUtf8, IsUtf8-string_bytes}
use Rattle.msi_props.specs.Held.{property_in}
use Rattle.msi_props.specs.Kept.{IsKeptValue}
use Rattle.msi_props.proofs.SetFits.{is_not_above, not_above}
use Rattle.msi_props.proofs.writable.is_kept.Goals as goal

pub returns-in-LpStr : goal.returns-in-LpStr
returns-in-LpStr c = (
  λ yes. subst (λ v. IsKeptValue c.args.codepage (property_in v)) (sym c.in-LpStr.is) (is_utf8-from_IsUtf8 _ (IsUtf8-string_bytes c.in-LpStr.text), rw c.deref.ensures at (sym c.fits.ensures.exact ∙ yes)),
  λ kept. c.fits.ensures.exact ∙ (rw (sym c.deref.ensures) at (subst (λ v. IsKeptValue c.args.codepage (property_in v)) c.in-LpStr.is kept).1),
)

pub returns-in-FileTime : goal.returns-in-FileTime
returns-in-FileTime c = (
  λ yes. subst (λ v. IsKeptValue c.args.codepage (property_in v)) (sym c.in-FileTime.is) (not_above c.in-FileTime.moment c.from_unix.result c.from_unix.ensures (sym c.le.ensures ∙ yes)),
  λ kept. c.le.ensures ∙ is_not_above c.in-FileTime.moment c.from_unix.result c.from_unix.ensures (subst (λ v. IsKeptValue c.args.codepage (property_in v)) c.in-FileTime.is kept),
)
