-- By what the splitter finds: a message is judged.
use Rattle.answers.specs.Steps.{plan-end, plan-framing, plan-judged}
use Rattle.answers.proofs.answer_plan.Goals as goal

pub put_answer-bytes-requires : goal.put_answer-bytes-requires
put_answer-bytes-requires c = c.requires.devices_len_bound.3

pub returns-in-End : goal.returns-in-End
returns-in-End c = plan-end _ _ _ _ _ c.frame_at.ensures.is c.in-End.is

pub returns-in-Refused : goal.returns-in-Refused
returns-in-Refused c = plan-framing _ _ _ _ _ c.frame_at.ensures.is
    c.in-Refused.is c.put_framing-bytes.ensures

pub returns-in-Message : goal.returns-in-Message
returns-in-Message c = plan-judged c.requires.decoded.0 c.requires.devices_len_bound.0 c.requires.devices_len_bound.1 _ _ _ _ c.frame_at.ensures.is c.requires.devices_len_bound.2
    c.in-Message.is c.message_at-message.ensures
    c.judge_plan-v.ensures c.put_answer-bytes.ensures c.accepted.ensures
