use Rattle.std.proofs.Common.{◌≡◌, ◌++◌, Option, ap, ◌∙◌}
use Rattle.line_io.specs.Out.{Text, with}
use Rattle.session_judge.specs.declared.search.Search.{Search}
use Rattle.session_judge.specs.declared.talk.JudgedTalk.{JudgedTalk}
use Rattle.session_judge.specs.Clean.{judge_verdict}
use Rattle.session_judge.specs.Rules.{broken}
use Rattle.session_judge.specs.Talks.{judgement_after}
use Rattle.judge_report.specs.Reports.{brought_out, report_before_end}
use Rattle.judge_report.specs.Texts.{unlawful_line}
use Rattle.judge_report.proofs.Reading.{ending_ok, ending_err, put_ok, put_err, talk_ok, talk_err}
use Rattle.judge_report.proofs.report.Report.hear.Goals as goal
use Rattle.judge_report.proofs.report.Report.hear.Goals.{in-Ok, in-Err}

pub returns-clause-put : goal.returns-clause-put
returns-clause-put c =
    let n = c.args.number in
    let d = c.args.dialogue_event.now in
    let held : Text = c.args.text.now in
    let before : c.search-before.result ≡ c.args.self.now.search = c.search-before.ensures ∙ ap (λ (u : JudgedTalk). u.search) c.self.view_is in
    elim c.match-hear_dialogue_event.branch [
      | in-Ok w ↦
          w.text-is
          ∙ put_ok c.args.self.now n d (broken c.args.self.now d) held w.put_brought_out.new.text
          (w.in-Ok.ensures.step ∙ ap (λ (u : JudgedTalk). judge_verdict (broken u d)) c.self.view_is)
          (w.put_brought_out.ensures ∙ ap (λ (s : Option Search). with held (brought_out s d)) before)
      | in-Err w ↦
          w.text-is
          ∙ put_err c.args.self.now n d (broken c.args.self.now d) w.in-Err.rule held w.put_refusal.new.out
          (w.in-Err.ensures.step ∙ ap (λ (u : JudgedTalk). judge_verdict (broken u d)) c.self.view_is)
          (w.put_refusal.ensures ∙ ap (λ (u : JudgedTalk). with held (report_before_end u ++ unlawful_line n w.in-Err.rule)) (w.in-Err.ensures.err ∙ c.self.view_is))
    ]

pub returns-clause-ending : goal.returns-clause-ending
returns-clause-ending c =
    let t = c.args.self.now in
    let n = c.args.number in
    let d = c.args.dialogue_event.now in
    elim c.match-hear_dialogue_event.branch [
      | in-Ok w ↦ w.result-is ∙ ending_ok t n d (broken t d) (w.in-Ok.ensures.step ∙ ap (λ (u : JudgedTalk). judge_verdict (broken u d)) c.self.view_is)
      | in-Err w ↦ w.result-is ∙ ending_err t n d (broken t d) w.in-Err.rule (w.in-Err.ensures.step ∙ ap (λ (u : JudgedTalk). judge_verdict (broken u d)) c.self.view_is)
    ]

pub returns-clause-talk : goal.returns-clause-talk
returns-clause-talk c =
    let t = c.args.self.now in
    let n = c.args.number in
    let d = c.args.dialogue_event.now in
    elim c.match-hear_dialogue_event.branch [
      | in-Ok w ↦
          talk_ok t c.hear_dialogue_event.new.self n d (broken t d) (w.in-Ok.ensures.step ∙ ap (λ (u : JudgedTalk). judge_verdict (broken u d)) c.self.view_is)
          (w.in-Ok.ensures.after ∙ ap (λ (u : JudgedTalk). judgement_after u n d) c.self.view_is)
      | in-Err w ↦
          talk_err t c.hear_dialogue_event.new.self n d (broken t d) w.in-Err.rule (w.in-Err.ensures.step ∙ ap (λ (u : JudgedTalk). judge_verdict (broken u d)) c.self.view_is)
          (w.in-Err.ensures.err ∙ c.self.view_is)
    ]
