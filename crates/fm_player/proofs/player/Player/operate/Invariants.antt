use Rattle.fm_player.proofs.player.Player.operate.Given as goal

abbrev pub ghost-play : goal.ghost-play
ghost-play g a = g.state

abbrev pub ghost-send : goal.ghost-send
ghost-send g a = g.state

abbrev pub ghost-rest : goal.ghost-rest
ghost-rest g a = g.state

abbrev pub ghost-set : goal.ghost-set
ghost-set g a = g.state

abbrev pub ghost-test : goal.ghost-test
ghost-test g a = g.state

abbrev pub ghost-jump : goal.ghost-jump
ghost-jump g a = g.state

abbrev pub ghost-open_loop : goal.ghost-open_loop
ghost-open_loop g a = g.state

abbrev pub ghost-again : goal.ghost-again
ghost-again g a = g.state

abbrev pub ghost-open_list : goal.ghost-open_list
ghost-open_list g a = g.state

abbrev pub ghost-close : goal.ghost-close
ghost-close g a = g.state

abbrev pub ghost-enter : goal.ghost-enter
ghost-enter g a = g.state

abbrev pub ghost-leave : goal.ghost-leave
ghost-leave g a = g.state
