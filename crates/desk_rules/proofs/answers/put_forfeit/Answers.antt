use Rattle.std.proofs.Common.{◌∙◌, List, ℕ, [], ◌∷◌, Option, ap}
use Rattle.line_io.specs.Out.{Text, with}
use Rattle.line_io.proofs.Puts.{put_again}
use Rattle.cecp_lines.specs.Losses as losses
use Rattle.cecp_lines.specs.Replies as cecp
use Rattle.cecp_lines.specs.declared.reply.UserError.TheVariants as user_error
use Rattle.option_map.specs.FeatureLists.Features.{reply_lines}
use Rattle.desk_rules.specs.Replies.{given_up}
use Rattle.desk_rules.proofs.answers.put_forfeit.Goals as goal

pub returns-clause-lines : goal.returns-clause-lines
returns-clause-lines c =
    let told = reply_lines (cecp.TellError user_error.Move ∷ []) in
    let loss = λ (answer : Option (List ℕ)). reply_lines (given_up c.args.settings c.args.game.now (losses.IllegalMove answer) ∷ []) in
    c.put_given_up.ensures.line
    ∙ ap (λ (answer : Option (List ℕ)). with c.put_short.new.out (loss answer)) c.quoted.ensures.value
    ∙ ap (λ (t : Text). with t (loss (losses.quoted c.args.answer.now))) c.put_short.ensures.line
    ∙ put_again c.args.out.now told (loss (losses.quoted c.args.answer.now))
