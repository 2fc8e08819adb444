use Rattle.msi_spec.proofs.Once.{create_once, delete_once, drop_once, insert_once, update_once}
use Rattle.msi_spec.proofs.laws.answers_are_one.Goals as goal

pub returns-clause-insert : goal.returns-clause-insert
returns-clause-insert c = λ P name new_rows Q R a b one other. insert_once P Q R a b name new_rows one other

pub returns-clause-update : goal.returns-clause-update
returns-clause-update c = λ P name sets condition Q R a b one other. update_once P Q R a b name sets condition one other

pub returns-clause-delete : goal.returns-clause-delete
returns-clause-delete c = λ P name condition Q R a b one other. delete_once P Q R a b name condition one other

pub returns-clause-create : goal.returns-clause-create
returns-clause-create c = λ letters P name columns Q R a b one other. create_once P Q R a b name letters columns one other

pub returns-clause-drop : goal.returns-clause-drop
returns-clause-drop c = λ P name Q R a b one other. drop_once P Q R a b name one other
