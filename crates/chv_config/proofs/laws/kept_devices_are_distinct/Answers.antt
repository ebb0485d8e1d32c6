use Rattle.chv_defs_api.specs.ConfigRules.{ids_of, zones_in_effect}
use Rattle.chv_config.proofs.Kept.{KeepsDeviceRules, keeps_device_rules, with_ids-set, devices_are_few, devices_are_distinct, devices_are_named}
use Rattle.chv_config.proofs.laws.kept_devices_are_distinct.Goals as goal

pub returns-clause-set : goal.returns-clause-set
returns-clause-set c = with_ids-set (ids_of (zones_in_effect c.args.config.now.memory) c.args.config.now.disks) c.args.config.now.disks

pub returns-clause-distinct : goal.returns-clause-distinct
returns-clause-distinct c =
    let kept : KeepsDeviceRules c.args.names.now c.args.config.now = keeps_device_rules c.args.names.now c.args.config.now c.requires in
    devices_are_distinct c.args.config.now kept.ids_once kept.few

pub returns-clause-named : goal.returns-clause-named
returns-clause-named c = devices_are_named c.args.config.now

pub returns-clause-few : goal.returns-clause-few
returns-clause-few c =
    let kept : KeepsDeviceRules c.args.names.now c.args.config.now = keeps_device_rules c.args.names.now c.args.config.now c.requires in
    devices_are_few c.args.config.now kept.few
