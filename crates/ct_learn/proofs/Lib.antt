mod Living
