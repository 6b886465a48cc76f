mod ThreeRounds
