use Rattle.actions.specs.Contents.{names_of, pairs_of}
use Rattle.layers.proofs.Promises.{masked_steps, renamed_labels, renaming_answers, masked_renamed, laws_kept}
use Rattle.layers.proofs.MaskAnswers.{mask_answers}
use Rattle.layers.proofs.layers_are_step_systems.Goals as goal

pub returns-clause-masks : goal.returns-clause-masks
returns-clause-masks c = λ names t i. masked_steps (names_of names) names.sound t i

pub returns-clause-renamings : goal.returns-clause-renamings
returns-clause-renamings c = λ pairs t. renamed_labels (pairs_of pairs) pairs.sound t

pub returns-clause-laws : goal.returns-clause-laws
returns-clause-laws c = λ names pairs t i. laws_kept (names_of names) (pairs_of pairs) t i

pub returns-clause-together : goal.returns-clause-together
returns-clause-together c = λ names pairs t. masked_renamed (pairs_of pairs) pairs.sound (names_of names) t names.sound

pub returns-clause-mask_answers : goal.returns-clause-mask_answers
returns-clause-mask_answers c = λ names t i. mask_answers (names_of names) names.sound t i

pub returns-clause-renaming_answers : goal.returns-clause-renaming_answers
returns-clause-renaming_answers c = λ pairs t i. renaming_answers (pairs_of pairs) t i
