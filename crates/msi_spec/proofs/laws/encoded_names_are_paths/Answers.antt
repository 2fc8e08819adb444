use Rattle.msi_spec.proofs.EncodedPaths.{path_is, special_paths}
use Rattle.msi_spec.proofs.laws.encoded_names_are_paths.Goals as goal

pub returns-clause-encoded : goal.returns-clause-encoded
returns-clause-encoded c = path_is

pub returns-clause-special : goal.returns-clause-special
returns-clause-special c = special_paths
