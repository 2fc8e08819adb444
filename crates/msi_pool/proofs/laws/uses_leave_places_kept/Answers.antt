use Rattle.msi_pool.proofs.PoolStays.{used_stay_empty, taken_stay_empty, used_stay_kept, taken_stay_kept}
use Rattle.msi_pool.proofs.laws.uses_leave_places_kept.Goals as goal

pub returns-clause-used_empty : goal.returns-clause-used_empty
returns-clause-used_empty c = λ text places empty. used_stay_empty text places empty

pub returns-clause-taken_empty : goal.returns-clause-taken_empty
returns-clause-taken_empty c = λ n places empty. taken_stay_empty n places empty

pub returns-clause-used_kept : goal.returns-clause-used_kept
returns-clause-used_kept c = λ page text places can kept. used_stay_kept page text places can kept

pub returns-clause-taken_kept : goal.returns-clause-taken_kept
returns-clause-taken_kept c = λ page n places kept. taken_stay_kept page n places kept
