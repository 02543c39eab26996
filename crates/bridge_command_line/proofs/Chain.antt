-- A command after one argument more.
use Rattle.std.proofs.Common.{◌≡◌, ◌∙◌, ap, ap₂, Result, Ok, Err}
use Rattle.std.specs.Prelude.{IfOk, IsOkAnd}
use Rattle.clap.specs.Words.{App, Rule, app_of, with_rule}
use Rattle.clap.specs.declared.builder.command.Command.{Command}
use Rattle.bridge_command_line.specs.Arguments.{with_policy_rules}

-- the command before and the argument may be named otherwise
pub chained : (after before before' : App) (rule rule' : Rule) → after ≡ with_rule before rule → before ≡ before' → rule ≡ rule'
    → after ≡ with_rule before' rule'
chained after before before' rule rule' e f g = e ∙ ap₂ with_rule f g

-- the same after the options of the policy
pub after_policy : (after middle before before' : App) (rule rule' : Rule) → after ≡ with_rule middle rule → middle ≡ with_policy_rules before
    → before ≡ before' → rule ≡ rule' → after ≡ with_rule (with_policy_rules before') rule'
after_policy after middle before before' rule rule' e m f g = chained after middle (with_policy_rules before') rule rule' e (m ∙ ap with_policy_rules f) g

module _ {E : Type 0} where
  -- the first argument of a chain, which may be named otherwise
  pub first_chained : (r : Result Command E) (before : App) (rule rule' : Rule) → rule ≡ rule' → IfOk r (λ c. app_of c ≡ with_rule before rule)
      → IfOk r (λ c. app_of c ≡ with_rule before rule')
  first_chained (Ok c) before rule rule' g e = e ∙ ap (with_rule before) g
  first_chained (Err x) before rule rule' g e = tt

  -- one argument more, if the command came about
  pub next_chained : (r s : Result Command E) (before : App) (rule rule' : Rule) → rule ≡ rule' → IfOk r (λ c. app_of c ≡ before)
      → IfOk s (λ c. IsOkAnd r (λ b. app_of c ≡ with_rule (app_of b) rule)) → IfOk s (λ c. app_of c ≡ with_rule before rule')
  next_chained r (Err x) before rule rule' g e f = tt
  next_chained (Ok b) (Ok c) before rule rule' g e f = f ∙ ap₂ with_rule e g
  next_chained (Err x) (Ok c) before rule rule' g e f = absurd f
