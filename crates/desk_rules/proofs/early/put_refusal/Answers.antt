use Rattle.std.proofs.Common.{◌≡◌, ◌∷◌, [], List, ℕ, ap, sym, ◌∙◌, Option, Result, Err}
use Rattle.cecp_lines.specs.Replies as cecp
use Rattle.cecp_lines.specs.declared.reply.Reason.{Reason}
use Rattle.cecp_lines.specs.declared.reply.Reason.TheVariants as reasons
use Rattle.protocol_tokens.specs.Tokens.{trimmed}
use Rattle.line_io.specs.Out.{Text, with}
use Rattle.uci_lines.specs.Orders.{Order}
use Rattle.option_map.specs.declared.declared_options.fault.OptionFault.{OptionFault}
use Rattle.option_map.specs.DeclaredOptions.Data.{answer_seen}
use Rattle.option_map.specs.FeatureLists.Features.{reply_lines}
use Rattle.desk_rules.specs.declared.effect.Refusal.{Refusal}
use Rattle.desk_rules.specs.Lines.{because, early_answer, refused_option}
use Rattle.desk_rules.specs.Replies.{early_refusal}
use Rattle.desk_rules.proofs.early.put_refusal.Goals as goal

shown_by : (out new : Text) (line shown : List ℕ) (reason : Reason) (a : Result (Option Order) OptionFault) → new ≡ with out (reply_lines (cecp.Error reason shown ∷ [])) → shown ≡ trimmed line
    → refused_option a ≡ because reason → new ≡ with out (reply_lines (early_refusal (refused_option a) line))
shown_by out new line shown reason a wrote trims is =
    wrote ∙ ap (λ (t : List ℕ). with out (reply_lines (cecp.Error reason t ∷ []))) trims ∙ ap (λ (o : Option Refusal). with out (reply_lines (early_refusal o line))) (sym is)

pub returns-in-Err-UnknownOption : goal.returns-in-Err-UnknownOption
returns-in-Err-UnknownOption c =
    shown_by c.args.out.now c.put_error_line.new.out c.args.line.now c.trim.result.now reasons.UnknownOption (early_answer c.args.options.now c.args.line.now) c.put_error_line.ensures c.trim.ensures
    (ap refused_option (sym c.early_answer.ensures ∙ ap answer_seen (c.in-Err-UnknownOption.is ∙ ap (λ f. Err f) c.in-Err-UnknownOption.field-0-is)))

pub returns-in-Err-BadValue : goal.returns-in-Err-BadValue
returns-in-Err-BadValue c =
    shown_by c.args.out.now c.put_error_line-in-Err-BadValue.new.out c.args.line.now c.trim-in-Err-BadValue.result.now reasons.BadValue (early_answer c.args.options.now c.args.line.now) c.put_error_line-in-Err-BadValue.ensures c.trim-in-Err-BadValue.ensures
    (ap refused_option (sym c.early_answer.ensures ∙ ap answer_seen (c.in-Err-BadValue.is ∙ ap (λ f. Err f) c.in-Err-BadValue.field-0-is)))
