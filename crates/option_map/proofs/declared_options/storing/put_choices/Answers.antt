use Rattle.std.proofs.Common.{sym, ◌∙◌, ◌++◌, ◌∷◌, [], subst, length, ◌+◌, ◌≤◌}
use Rattle.line_io.specs.Out.{Text}
use Rattle.uci_lines.specs.Choices.{values}
use Rattle.option_map.specs.DeclaredOptions.Choices.{with_quotes, with_star}
use Rattle.option_map.proofs.FeatureLists.Rooms.{room_here, room_behind, star_here, star_later}
use Rattle.option_map.proofs.declared_options.storing.put_choices.Goals as goal

pub put_starred-requires : goal.put_starred-requires
put_starred-requires c =
    let d = c.args.default.now in
    room_here c.loop-value.out c.args.out.now ((42 ∷ c.in-Some.value.now) ++ 34 ∷ []) (with_quotes (values c.in-Some.after.now)) (with_quotes (with_star d (values c.loop-value.others.now))) (with_quotes (with_star d (values c.args.text.now)))
    (star_here d c.in-Some.value.now (values c.loop-value.others.now) (values c.in-Some.after.now) c.in-Some.ensures.first (sym c.same_text.ensures ∙ c.if-same_text.true)) c.loop-value.invariant c.requires

pub put_plain-requires : goal.put_plain-requires
put_plain-requires c =
    let d = c.args.default.now in
    let more = with_quotes (values c.in-Some.after.now) in
    subst (λ (t : Text). length t.text + length more ≤ t.room) (sym c.put_starred.ensures) (room_behind c.loop-value.out c.args.out.now ((42 ∷ c.in-Some.value.now) ++ 34 ∷ []) (with_quotes (values c.in-Some.after.now)) (with_quotes (with_star d (values c.loop-value.others.now))) (with_quotes (with_star d (values c.args.text.now)))
    (star_here d c.in-Some.value.now (values c.loop-value.others.now) (values c.in-Some.after.now) c.in-Some.ensures.first (sym c.same_text.ensures ∙ c.if-same_text.true)) c.loop-value.invariant c.requires)

pub put_quoted-requires : goal.put_quoted-requires
put_quoted-requires c =
    let d = c.args.default.now in
    room_here c.loop-value.out c.args.out.now (c.in-Some.value.now ++ 34 ∷ []) (with_quotes (with_star d (values c.in-Some.after.now))) (with_quotes (with_star d (values c.loop-value.others.now))) (with_quotes (with_star d (values c.args.text.now)))
    (star_later d c.in-Some.value.now (values c.loop-value.others.now) (values c.in-Some.after.now) c.in-Some.ensures.first (sym c.same_text.ensures ∙ c.if-same_text.false)) c.loop-value.invariant c.requires
