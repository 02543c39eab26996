use Rattle.std.proofs.Common.{◌≡◌, ap, sym, ◌∙◌, ◌++◌, codes, [], List, ℕ}
use Rattle.std.proofs.lemmas.List.{append-nil}
use Rattle.line_io.specs.Out.{with}
use Rattle.cecp_lines.specs.Replies.{Feature}
use Rattle.option_map.specs.DeclaredOptions.Settings.{features}
use Rattle.option_map.specs.FeatureLists.Features.{in_quotes, fixed_features, by_options, feature_list, reply_line, reply_lines}
use Rattle.option_map.proofs.DeclaredOptions.Lists.{list_text, name_line, done_line, three, four, five, room_for}
use Rattle.option_map.proofs.feature_lists.list.write_list.Goals as goal

pub write_features-requires : goal.write_features-requires
write_features-requires c =
    let os = c.args.options.now in
    let said = c.args.name.now in
    let name : c.put_name.new.out ≡ with c.args.out.now (name_line said) =
    c.put_name.ensures ∙ ap (λ (n : List ℕ). with c.args.out.now (reply_line (Feature (codes "myname") (in_quotes n)))) c.shown_name.ensures.name in
    room_for c.args.out.now c.put_by_options.new.out (name_line said ++ reply_lines fixed_features ++ reply_lines (by_options os)) (features os) done_line (reply_lines (feature_list os said))
    (three c.args.out.now c.put_name.new.out c.put_fixed.new.out c.put_by_options.new.out (name_line said) (reply_lines fixed_features) (reply_lines (by_options os)) name c.put_fixed.ensures c.put_by_options.ensures)
    (list_text os said) c.requires

pub put-requires : goal.put-requires
put-requires c =
    let os = c.args.options.now in
    let said = c.args.name.now in
    let name : c.put_name.new.out ≡ with c.args.out.now (name_line said) =
    c.put_name.ensures ∙ ap (λ (n : List ℕ). with c.args.out.now (reply_line (Feature (codes "myname") (in_quotes n)))) c.shown_name.ensures.name in
    room_for c.args.out.now c.write_features.new.out (name_line said ++ reply_lines fixed_features ++ reply_lines (by_options os) ++ features os) done_line [] (reply_lines (feature_list os said))
    (four c.args.out.now c.put_name.new.out c.put_fixed.new.out c.put_by_options.new.out c.write_features.new.out (name_line said) (reply_lines fixed_features) (reply_lines (by_options os)) (features os) name c.put_fixed.ensures c.put_by_options.ensures c.write_features.ensures)
    (list_text os said ∙ sym (append-nil _)) c.requires

pub returns : goal.returns
returns c =
    let os = c.args.options.now in
    let said = c.args.name.now in
    let name : c.put_name.new.out ≡ with c.args.out.now (name_line said) =
    c.put_name.ensures ∙ ap (λ (n : List ℕ). with c.args.out.now (reply_line (Feature (codes "myname") (in_quotes n)))) c.shown_name.ensures.name in
    five c.args.out.now c.put_name.new.out c.put_fixed.new.out c.put_by_options.new.out c.write_features.new.out c.put.new.self (name_line said) (reply_lines fixed_features) (reply_lines (by_options os)) (features os) done_line
    (reply_lines (feature_list os said)) name c.put_fixed.ensures c.put_by_options.ensures c.write_features.ensures c.put.ensures (list_text os said)
