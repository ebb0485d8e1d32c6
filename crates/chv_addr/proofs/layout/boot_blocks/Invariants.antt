use Rattle.std.proofs.Common.{◌≡◌, ◌*◌, ◌≤◌, take}
use Rattle.std.specs.Prelude.{sum_by}
use Rattle.chv_defs_base.specs.Sizes.{blocks_in}
use Rattle.chv_addr.proofs.layout.boot_blocks.Given as goal

abbrev pub invariant-loop-config : goal.invariant-loop-config
invariant-loop-config l = record {
  sum : l.blocks ≡ sum_by (λ config. blocks_in config.size) (take l.config-index l.zones);
  small : l.blocks ≤ 32768 * l.config-index;
}
