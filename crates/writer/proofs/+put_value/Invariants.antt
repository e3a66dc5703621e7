use Rattle.writer.proofs.+put_value.Given as goal

-- proposed from what the function passes where it calls itself
abbrev pub decreases-put_value : goal.decreases-put_value
decreases-put_value l = l.n
