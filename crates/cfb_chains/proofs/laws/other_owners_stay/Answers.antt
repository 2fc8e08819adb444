use Rattle.cfb_chains.proofs.Owners.{each_left, other_left, owned_changed, owned_still}
use Rattle.cfb_chains.proofs.laws.other_owners_stay.Goals as goal

pub returns-clause-owned : goal.returns-clause-owned
returns-clause-owned c = λ sector_of words key ids more old new own later owned moves. owned_changed sector_of old new own later key words ids more owned moves

pub returns-clause-stay : goal.returns-clause-stay
returns-clause-stay c = λ sector_of words key ids more old new own later owned moves. other_left sector_of old new own later key words ids more owned moves

pub returns-clause-untouched : goal.returns-clause-untouched
returns-clause-untouched c = λ sector_of words old new own owned leaves. (owned_still sector_of old new own words owned leaves, each_left sector_of old new own words owned leaves)
