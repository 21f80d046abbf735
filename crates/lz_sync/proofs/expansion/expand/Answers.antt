use Rattle.std.proofs.Common.{◌≡◌}
use Rattle.lz_sync.specs.Operations.{operation}
use Rattle.lz_sync.specs.Doing.{DoesThroughout}
use Rattle.lz_sync.specs.Forming.{BeginsWithTest, NamesNoOthers, FormsAlike}
use Rattle.lz_sync.specs.Weights.{instructions_weight, group_weight}
use Rattle.lz_sync.proofs.GroupsLemmas.{groups_do}
use Rattle.lz_sync.proofs.FormingLemmas.{group_begins, group_names, group_forms}
use Rattle.lz_sync.proofs.WeighingLemmas.{group_weighs}
use Rattle.lz_sync.proofs.GivingLemmas.{if_group}
use Rattle.lz_sync.proofs.expansion.expand.Goals as goal

-- src/expansion.rt
pub returns-clause-group : goal.returns-clause-group
returns-clause-group c = c.group_of.ensures

pub returns-clause-does : goal.returns-clause-does
returns-clause-does c = if_group (DoesThroughout c.args.layout.now c.args.thread (operation c.args.op.now)) c.args.layout.now c.args.thread (operation c.args.op.now) c.group_of.result
    (groups_do c.args.layout.now c.args.thread (operation c.args.op.now) c.requires.thread c.requires.conds c.requires.fits) c.group_of.ensures

pub returns-clause-begins : goal.returns-clause-begins
returns-clause-begins c = if_group BeginsWithTest c.args.layout.now c.args.thread (operation c.args.op.now) c.group_of.result (group_begins c.args.layout.now c.args.thread (operation c.args.op.now)) c.group_of.ensures

pub returns-clause-names : goal.returns-clause-names
returns-clause-names c = if_group (NamesNoOthers c.args.layout.now (operation c.args.op.now)) c.args.layout.now c.args.thread (operation c.args.op.now) c.group_of.result
    (group_names c.args.layout.now c.args.thread (operation c.args.op.now) c.requires.thread c.requires.fits) c.group_of.ensures

pub returns-clause-forms : goal.returns-clause-forms
returns-clause-forms c = if_group (FormsAlike c.args.layout.now (operation c.args.op.now)) c.args.layout.now c.args.thread (operation c.args.op.now) c.group_of.result
    (group_forms c.args.layout.now c.args.thread (operation c.args.op.now) c.requires.thread c.requires.threads c.requires.room c.requires.conds c.requires.fits) c.group_of.ensures

pub returns-clause-weight : goal.returns-clause-weight
returns-clause-weight c = if_group (λ xs. instructions_weight xs ≡ group_weight c.args.layout.now (operation c.args.op.now)) c.args.layout.now c.args.thread (operation c.args.op.now) c.group_of.result
    (group_weighs c.args.layout.now c.args.thread (operation c.args.op.now)) c.group_of.ensures
