use Rattle.rtm_laws.proofs.laws.every_written_run_keeps_the_laws.Goals as goal

pub returns-clause-in_turns : goal.returns-clause-in_turns
returns-clause-in_turns c = λ bytes answer told written.
    c.every_legal_history_keeps_the_laws.ensures written.deck written.run.history written.spelled.well_formed written.run.run.legal

pub returns-clause-in_any_order : goal.returns-clause-in_any_order
returns-clause-in_any_order c = λ bytes answer told written.
    c.every_legal_history_keeps_the_laws.ensures written.deck written.run.history written.spelled.well_formed written.run.run.legal
