-- What an answer leaves of a vCPU.
use Rattle.std.proofs.Common.{◌≡◌, ◌+◌, ℕ, true, List, length, Some, refl, ap, arith}
use Rattle.std.specs.Prelude.{◌&&◌, nat_le}
use Rattle.std.proofs.lemmas.Bool.Decides.{nat_tests}
use Rattle.std.proofs.lemmas.List.{take_all}
use Rattle.chv_defs_base.specs.Numbers.{is_width, le_field, le_number}
use Rattle.chv_defs_api.specs.declared.context.CpuNote.{CpuNote}
use Rattle.chv_defs_guest.specs.declared.want.Want.{Want}
use Rattle.chv_defs_guest.specs.declared.want.Want.TheVariants as want
use Rattle.chv_defs_guest.specs.declared.want.Got.{Got}
use Rattle.chv_defs_guest.specs.declared.want.Got.TheVariants as got
use Rattle.chv_defs_guest.specs.Instruction.{settled}

-- the vCPU's number stays
pub settled_vcpu : (cpu : CpuNote) (w : Want) (g : Got) → (settled cpu w g).vcpu ≡ cpu.vcpu
settled_vcpu cpu (want.Load addr width reg) (got.Value value) = refl
settled_vcpu cpu (want.Load addr width reg) got.Fault = refl
settled_vcpu cpu (want.Load addr width reg) got.Done = refl
settled_vcpu cpu (want.Store addr bytes put) (got.Value value) = refl
settled_vcpu cpu (want.Store addr bytes put) got.Fault = refl
settled_vcpu cpu (want.Store addr bytes put) got.Done = refl
settled_vcpu cpu (want.In width port reg) (got.Value value) = refl
settled_vcpu cpu (want.In width port reg) got.Fault = refl
settled_vcpu cpu (want.In width port reg) got.Done = refl
settled_vcpu cpu (want.Out width port value) (got.Value read) = refl
settled_vcpu cpu (want.Out width port value) got.Fault = refl
settled_vcpu cpu (want.Out width port value) got.Done = refl
settled_vcpu cpu want.Nothing g = refl
settled_vcpu cpu want.Halted g = refl

-- the field that all of some bytes are
pub field_of_all : (bytes : List ℕ) → is_width (length bytes) ≡ true → le_field bytes 0 (length bytes) ≡ Some (le_number bytes)
field_of_all bytes wide =
    let fits : (is_width (length bytes) && nat_le (0 + length bytes) (length bytes)) ≡ true = grind (arith, nat_tests) in
    rw fits (ap (λ bs. Some (le_number bs)) (take_all (length bytes) bytes (omega arith)))
