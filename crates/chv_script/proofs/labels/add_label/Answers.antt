use Rattle.std.proofs.Common.{Some, option_map, sym, ◌∙◌, ap}
use Rattle.chv_defs_scene.specs.ScriptReading.{fields_of, label_in}
use Rattle.chv_script.proofs.LabelLemmas.{put_label}
use Rattle.chv_script.proofs.labels.add_label.Goals as goal

pub returns-in_ok-insert : goal.returns-in_ok-insert
returns-in_ok-insert c =
    put_label c.args.labels.now.keys c.insert.new.self.keys c.in_ok-name.name (label_in (fields_of c.args.text.now))
    (sym c.label.ensures ∙ (ap (option_map (λ s. s.now)) c.in-Some.is ∙ ap Some (sym c.in_ok-name.ensures))) c.in_ok-insert.ensures.updates.0
