-- The configuration that the body `{}` asks for (Cloud Hypervisor REST API v1, VmConfig).
use Rattle.std.specs.Prelude.{[]}
use Rattle.chv_defs_api.specs.declared.config.VmConfig.{VmConfig}
use Rattle.chv_defs_api.specs.declared.config.Hotplug.TheVariants.{Acpi}

-- One vCPU, 512 MiB of memory that does not grow, and no disk.
abbrev pub default_config : VmConfig
default_config = record {
  cpus = record { boot = 1; max = 1 };
  memory = record { size = 536870912; hotplug = 0; hotplugged = 0; way = Acpi; zones = [] };
  disks = [];
}
