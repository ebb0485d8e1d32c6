use Rattle.std.proofs.Common.{rules}
use Rattle.chv_bank.proofs.bank.Bank.passes_limit.Goals as goal

pub returns-else-entries_taken-entries-gt-MOST_ENTRIES : goal.returns-else-entries_taken-entries-gt-MOST_ENTRIES
returns-else-entries_taken-entries-gt-MOST_ENTRIES c = search rules
