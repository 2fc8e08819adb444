use Rattle.cfb.proofs.Walks.{walk_rises, walk_shows_each, walk_shows_once, walk_shows_parents_first, walk_shows_what_is_found, walk_keeps_siblings_in_order}
use Rattle.cfb_laws.proofs.laws.walks_show_each_object_once.Goals as goal

pub returns-clause-meant : goal.returns-clause-meant
returns-clause-meant g c letters bytes tree means = means.1.ordered

pub returns-clause-shown : goal.returns-clause-shown
returns-clause-shown g c it tree shows = shows.ordered

pub returns-clause-once : goal.returns-clause-once
returns-clause-once g c letters tree all ordered is = walk_shows_once letters tree all is ordered

pub returns-clause-before : goal.returns-clause-before
returns-clause-before g c letters tree all is = walk_shows_parents_first letters tree all is

pub returns-clause-ordered : goal.returns-clause-ordered
returns-clause-ordered g c letters tree all ordered is = walk_keeps_siblings_in_order letters tree all is ordered

pub returns-clause-rising : goal.returns-clause-rising
returns-clause-rising g c letters tree all ordered is = walk_rises letters tree all is ordered

pub returns-clause-found : goal.returns-clause-found
returns-clause-found g c letters tree all ordered told = walk_shows_what_is_found letters tree all told ordered

pub returns-clause-each : goal.returns-clause-each
returns-clause-each g c letters tree all told = walk_shows_each letters tree all told
