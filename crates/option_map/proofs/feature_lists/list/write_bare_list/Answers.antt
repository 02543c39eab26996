use Rattle.std.proofs.Common.{◌≡◌, ap, sym, ◌∙◌, [], ◌++◌, codes, false, List, ℕ, append_assoc}
use Rattle.std.proofs.lemmas.List.{append-nil}
use Rattle.line_io.specs.Out.{with}
use Rattle.cecp_lines.specs.Replies.{Feature}
use Rattle.option_map.specs.FeatureLists.Features.{in_quotes, bit, fixed_features, feature_list, reply_line, reply_lines}
use Rattle.option_map.proofs.DeclaredOptions.Lists.{list_text, name_line, done_line, five}
use Rattle.option_map.proofs.feature_lists.list.write_bare_list.Goals as goal

pub returns : goal.returns
returns c =
    let said = c.args.name.now in
    let name : c.put_name.new.out ≡ with c.args.out.now (name_line said) =
    c.put_name.ensures ∙ ap (λ (n : List ℕ). with c.args.out.now (reply_line (Feature (codes "myname") (in_quotes n)))) c.shown_name.ensures.name in
    let prefix = name_line said ++ reply_lines fixed_features in
    let memory = reply_line (Feature (codes "memory") (bit false)) in
    let cores = reply_line (Feature (codes "smp") (bit false)) in
    let whole = list_text [] said ∙ ap (λ (t : List ℕ). t ++ done_line) (append-nil (prefix ++ (memory ++ cores)) ∙ sym (append_assoc prefix memory cores)) in
    five c.args.out.now c.put_name.new.out c.put_fixed.new.out c.put_memory.new.out c.put_cores.new.out c.put.new.self (name_line said) (reply_lines fixed_features) memory cores done_line
    (reply_lines (feature_list [] said)) name c.put_fixed.ensures c.put_memory.ensures c.put_cores.ensures c.put.ensures whole
