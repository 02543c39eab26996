use Rattle.std.proofs.Common.{◌++◌, ◌∷◌, [], List, ℕ, sym, ap, ◌∙◌}
use Rattle.line_io.specs.Out.{with}
use Rattle.line_io.proofs.Puts.{put_three}
use Rattle.game_record.specs.Game.{ply_of}
use Rattle.san_text.specs.GameSan.{san_of_ply}
use Rattle.san_text.specs.GameText.{move_number_by, spaced_parts}
use Rattle.san_text.proofs.GameSans.{san-law}
use Rattle.san_text.proofs.GameParts.{spaced-append}
use Rattle.san_text.proofs.game_parts.put_move.Goals as goal

pub returns-clause-text : goal.returns-clause-text
returns-clause-text c =
    let number = move_number_by c.args.at.now.side c.args.at.now.full in
    let text = c.as_slice.ensures.value
    ∙ (san-law c.args.at.now c.args.m c.write_san.result.items).0 c.write_san.ensures.written in
    put_three c.args.out.now c.put_place.new.out c.put.new.self c.put-2.new.self (spaced_parts number) c.as_slice.result.now (32 ∷ [])
    c.put_place.ensures.text c.put.ensures c.put-2.ensures
    ∙ ap (λ (t : List ℕ). with c.args.out.now (spaced_parts number ++ (t ++ 32 ∷ []))) text
    ∙ ap (with c.args.out.now) (sym (spaced-append number (san_of_ply c.args.at.now (ply_of c.args.m) ∷ [])))
