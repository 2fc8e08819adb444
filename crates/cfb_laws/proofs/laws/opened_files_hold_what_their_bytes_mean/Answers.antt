use Rattle.cfb.proofs.Holding.{holds_opened, holds_shown, holds_yet, shown_yet}
use Rattle.cfb_laws.proofs.laws.opened_files_hold_what_their_bytes_mean.Goals as goal

pub returns-clause-opened : goal.returns-clause-opened
returns-clause-opened g c = λ validation letters medium it tree is opens named opened means. holds_opened validation letters medium it tree is opens named opened means

pub returns-clause-shown : goal.returns-clause-shown
returns-clause-shown g c = λ it tree holds. holds_shown it tree holds

pub returns-clause-held : goal.returns-clause-held
returns-clause-held g c = λ old new tree rests holds. holds_yet old new tree rests holds

pub returns-clause-kept : goal.returns-clause-kept
returns-clause-kept g c = λ old new tree rests shows. shown_yet old new tree rests shows
