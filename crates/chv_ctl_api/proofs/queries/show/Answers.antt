use Rattle.chv_ctl_api.proofs.Kept.{few_there, small_there}
use Rattle.chv_ctl_api.proofs.queries.show.Goals as goal

pub show_as-requires-clause-sizes : goal.show_as-requires-clause-sizes
show_as-requires-clause-sizes c = small_there c.args.machine.now.config c.in-Some.checked c.in-Some.is c.requires.formed.checked

pub show_as-requires-clause-vcpus : goal.show_as-requires-clause-vcpus
show_as-requires-clause-vcpus c = few_there c.args.machine.now.config c.in-Some.checked c.in-Some.is c.requires.formed.checked
